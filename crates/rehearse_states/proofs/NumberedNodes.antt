-- The nodes of a flow by their numbers, as the code reads them.
use Rattle.std.proofs.Common.{ℕ, suc, List, map, length, Option, Some, None, option_map, refl, sym, ap, ◌∙◌, ◌≡◌}
use Rattle.std.specs.Borrow.{Bor}
use Rattle.std.specs.List.{slice_get}
use Rattle.std.specs.Slice.{IsItemAt}
use Rattle.std.proofs.lemmas.Option.{slice_get-map, slice_get_past, slice_get_read}
use Rattle.rehearse_states.specs.Flow.{numbered}
use Rattle.rehearse_states.specs.Drawing.{node_shown}
use Rattle.rehearse_states.specs.declared.flow.Node as rt

shown_at : (items : List rt.Node) (o : Option (Bor rt.Node)) (place : ℕ) → IsItemAt items place o → option_map (λ n. node_shown n.now) o ≡ slice_get (map node_shown items) place
shown_at items None place h = sym (slice_get-map node_shown items place ∙ ap (option_map node_shown) (slice_get_past items place h.3))
shown_at items (Some n) place h = sym (slice_get-map node_shown items place ∙ ap (option_map node_shown) (slice_get_read items (length items) place n.now refl h.3.0 h.1))

pub line_at : (items : List rt.Node) (o : Option (Bor rt.Node)) (number place : ℕ) → number ≡ suc place → IsItemAt items place o → option_map (λ n. node_shown n.now) o ≡ numbered (map node_shown items) number
line_at items o number place e h = shown_at items o place h ∙ sym (ap (numbered (map node_shown items)) e)
