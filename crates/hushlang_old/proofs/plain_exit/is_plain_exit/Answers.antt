use Rattle.std.proofs.Common.{ℕ, ap, ◌∙◌, Vec, Global}
use Rattle.hushlang.specs.KnownFields.{known_fields}
use Rattle.hushlang.specs.TreesShown as view
use Rattle.hushlang_old.proofs.PlainExitLemmas.{fewer_than_two, more_than_two}
use Rattle.hushlang_old.proofs.plain_exit.is_plain_exit.Goals as goal

pub returns-in_default-as_slice : goal.returns-in_default-as_slice
returns-in_default-as_slice c =
    fewer_than_two c.as_slice.result.now c.in-Some.fields.now.value.items (known_fields (view.call c.args.call.now))
    (c.as_slice.ensures.value ∙ ap (λ (x : Vec (Vec ℕ Global) Global). x.items) c.deref.ensures) c.in-Some.ensures.known c.in_default-as_slice.len_below

pub returns-in_default-as_slice-2 : goal.returns-in_default-as_slice-2
returns-in_default-as_slice-2 c =
    more_than_two c.as_slice.result.now c.in-Some.fields.now.value.items (known_fields (view.call c.args.call.now))
    (c.as_slice.ensures.value ∙ ap (λ (x : Vec (Vec ℕ Global) Global). x.items) c.deref.ensures) c.in-Some.ensures.known c.in_default-as_slice.len_at_least
