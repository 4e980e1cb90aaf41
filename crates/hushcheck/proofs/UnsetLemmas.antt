-- The lines of the names that are reached, and then those of what nothing sets.
use Rattle.std.proofs.Common.{◌≡◌, ℕ, ◌+◌, ◌<◌, ◌&&◌, ◌||◌, Bool, true, false, not, inl, inr, List, [], ◌∷◌, ◌++◌, length, drop, get_or, subst, refl, sym, ap, ◌∙◌, append_assoc, Ok, Err}
use Rattle.std.specs.Prelude.{nat_eq}
use Rattle.std.proofs.lemmas.List.{append-nil}
use Rattle.std.specs.List.{flat_map, list_all}
use Rattle.envimage.specs.Data.{Pair}
use Rattle.output.proofs.SinkLemmas.{Wrote-append}
use Rattle.output.specs.Sink.{Sink, Wrote}
use Rattle.hushcheck.specs.Calls.{Remark, found_lines}
use Rattle.hushcheck.specs.Names.{Text}
use Rattle.hushcheck.specs.Report.{AreLines, TakesTurns, is_fine, lacks_set, last_lines, lines_of}
use Rattle.hushcheck.specs.Rules.{Rules}
use Rattle.hushcheck.specs.Telling.{Stops, WritesNames, WritesTurns}
use Rattle.hushcheck.specs.Unset.{Search, Used, has_unset, searched, unset_lines}
use Rattle.hushcheck.specs.declared.check_error.CheckError.{CheckError}
use Rattle.hushcheck.specs.UsedShown.{all_used, used_shown}
use Rattle.hushcheck.specs.declared.unset.Used as code
use Rattle.hushcheck.proofs.SetsLemmas.{drop_item}
use Rattle.hushcheck.proofs.TellingLemmas.{stops-after, stops-as, stops-before, wrote-as}

module _ (rules : Rules) (env : List Pair) (before : List Used) (asked called : List Text) (so_far : Bool) where
  lines_are : (told : Text) (sound : Bool) (used : List Used) (t : TakesTurns rules env before asked called so_far told sound used) → AreLines rules env before asked called t.order (told ++ last_lines env used)
  lines_are told sound used t = record {
    is_order = t.is_order;
    told_is =
        ap (λ text. text ++ last_lines env used) t.told_is
        ∙ ap (λ us. flat_map (lines_of rules env) t.order ++ last_lines env us) t.used_is;
  }

  -- within the lines of the names
  pub turns-broke : (used : List Used) (error : CheckError) (old new : Sink) → WritesTurns rules env before asked called so_far used (Err error) old new → WritesNames rules env before asked called so_far (Err error) old new
  turns-broke used error old new h = (h.0, inl h.1, h.2)

  -- within the lines after them
  pub last-broke : (used : List Used) (sound : Bool) (error : CheckError) (old mid new : Sink) → WritesTurns rules env before asked called so_far used (Ok sound) old mid → Stops error mid new (last_lines env used)
      → WritesNames rules env before asked called so_far (Err error) old new
  last-broke used sound error old mid new h stops =
      (h.0 ++ last_lines env used, inr (h.1.order, lines_are h.0 sound used h.1), stops-after old mid new h.0 (last_lines env used) error h.2 stops)

  -- all lines
  pub last-wrote : (used : List Used) (sound sound' : Bool) (old mid new : Sink) → WritesTurns rules env before asked called so_far used (Ok sound) old mid → Wrote mid new (last_lines env used)
      → sound' ≡ (sound && not (rules.strict && lacks_set env used)) → WritesNames rules env before asked called so_far (Ok sound') old new
  last-wrote used sound sound' old mid new h wrote e = (
    h.0 ++ last_lines env used,
    record {
      order = h.1.order;
      lines = lines_are h.0 sound used h.1;
      sound_is =
          e ∙ ap (λ b. b && not (rules.strict && lacks_set env used)) h.1.sound_is
          ∙ ap (λ us. (so_far && list_all (is_fine rules env) h.1.order) && not (rules.strict && lacks_set env us)) h.1.used_is;
    },
    Wrote-append h.2 wrote,
  )

-- ---- text by text

-- what was written, and what is left, are all lines
pub record IsSo (known : List Text) (used : List Used) (told : Text) (any : Bool) (known' : List Text) (left : List Used) : Type 0 where
  pub lines : told ++ unset_lines known' left ≡ unset_lines known used
  pub any_is : (any || has_unset known' left) ≡ has_unset known used

pub so_first : (known : List Text) (used : List Used) → IsSo known used [] false known used
so_first known used = record { lines = refl; any_is = refl }

pub or_assoc : (a b c : Bool) → ((a || b) || c) ≡ (a || (b || c))
or_assoc true b c = refl
or_assoc false b c = refl

pub or_end : (a : Bool) → (a || false) ≡ a
or_end true = refl
or_end false = refl

module _ (known : List Text) (used : List Used) (told : Text) (any : Bool) (known' : List Text) (u : Used) (left : List Used) (is : IsSo known used told any known' (u ∷ left)) where
  -- the lines of one more text
  abbrev pub more : Text
  more = found_lines u.name u.text (searched known' u.reads).found

  pub so_next : IsSo known used (told ++ more) (any || not (nat_eq (length (searched known' u.reads).found) 0)) (searched known' u.reads).known left
  so_next = record {
    lines = append_assoc told more (unset_lines (searched known' u.reads).known left) ∙ is.lines;
    any_is = or_assoc any (not (nat_eq (length (searched known' u.reads).found) 0)) (has_unset (searched known' u.reads).known left) ∙ is.any_is;
  }

  -- within them
  pub so_broke : (old mid new : Sink) (error : CheckError) → Wrote old mid told → Stops error mid new more → Stops error old new (unset_lines known used)
  so_broke old mid new error wrote stops =
      stops-as old new _ _ error is.lines (stops-after old mid new told _ error wrote (stops-before mid new more (unset_lines (searched known' u.reads).known left) error stops))

-- what is found is what is searched
module _ (known : List Text) (used : List Used) (told : Text) (any : Bool) (known' : List Text) (u : Used) (left : List Used) (k' : List Text) (f : List (ℕ × Remark)) (e : record { known = k'; found = f } ≡ searched known' u.reads) (is : IsSo known used told any known' (u ∷ left)) where
  pub step_so : (any' : Bool) → any' ≡ (any || not (nat_eq (length f) 0)) → IsSo known used (told ++ found_lines u.name u.text f) any' k' left
  step_so any' a =
      let P : Search → Type 0 = λ s. IsSo known used (told ++ found_lines u.name u.text s.found) (any || not (nat_eq (length s.found) 0)) s.known left in
      let so : P (record { known = k'; found = f }) = subst P (sym e) (so_next known used told any known' u left is) in
      subst (λ (b : Bool). IsSo known used (told ++ found_lines u.name u.text f) b k' left) (sym a) so

  pub step_broke : (old mid new : Sink) (error : CheckError) → Wrote old mid told → Stops error mid new (found_lines u.name u.text f) → Stops error old new (unset_lines known used)
  step_broke old mid new error wrote stops =
      so_broke known used told any known' u left is old mid new error wrote (stops-as mid new _ _ error (ap (λ (s : Search). found_lines u.name u.text s.found) e) stops)

-- the texts from a place on
pub so_at : (known : List Text) (used : List Used) (told : Text) (any : Bool) (known' : List Text) (texts : List code.Used) (i : ℕ) (text : code.Used) → i < length texts → text ≡ get_or texts i text
    → IsSo known used told any known' (all_used (drop i texts)) → IsSo known used told any known' (used_shown text ∷ all_used (drop (i + 1) texts))
so_at known used told any known' texts i text within at is =
    subst (λ (left : List code.Used). IsSo known used told any known' (all_used left)) (drop_item texts i text within at) is

module _ (known : List Text) (used : List Used) (told : Text) (any : Bool) (known' : List Text) (is : IsSo known used told any known' []) where
  pub so_wrote : (old new : Sink) → Wrote old new told → Wrote old new (unset_lines known used)
  so_wrote old new wrote = wrote-as old new told _ (sym (append-nil told) ∙ is.lines) wrote

  pub so_any : any ≡ has_unset known used
  so_any = sym (or_end any) ∙ is.any_is
