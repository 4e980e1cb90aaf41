-- The count of failures, where one copy of a pair is enough.
use Rattle.std.proofs.Common.{◌≡◌, ◌∙◌, ◌⊎◌, ℕ, Bool, true, false, sym, ap, subst, List, inl, inr, Ok, Err}
use Rattle.std.specs.Prelude.{Result}
use Rattle.output.specs.Sink.{Sink, counted}
use Rattle.tool_images.specs.declared.fault.Fault.{Fault}
use Rattle.tool_images.specs.declared.fault.Fault.TheVariants.{CannotRead, CannotWrite, Memory}
use Rattle.tool_steps.specs.Faults.{CountsReads, CountsTold}
use Rattle.tool_steps.specs.OneCopy.{CountsSought, Joins}
use Rattle.tool_steps.specs.declared.images.Images.{Images}
use Rattle.tool_steps.specs.declared.read.SoughtCopy.{SoughtCopy}
use Rattle.tool_steps.specs.declared.read.SoughtCopy.TheVariants.{Lost, Read}

-- at most one more
abbrev IsOneMore : ℕ → ℕ → Type 0
IsOneMore old new = (new ≡ old) ⊎ (new ≡ counted old)

one-more : (T : Type 0) (f : Fault) (a b : ℕ) → CountsTold {T = T} a b (Err f) → IsOneMore a b
one-more T (CannotRead path) a b h = inr h
one-more T (CannotWrite path) a b h = inr h
one-more T f a b h = inl h

sought-more : (g : SoughtCopy) (a b : ℕ) → CountsSought a b (Ok g) → IsOneMore a b
sought-more (Read copy) a b h = inl h
sought-more (Lost place fault) a b h = one-more (Unit {0}) fault a b h

-- a count that is higher by at most one when a call begins
pub after-more : {T : Type 0} (r : Result T Fault) (a b c : ℕ) → IsOneMore a b → CountsTold b c r → CountsReads true a c r
after-more r a b c (inl same) h = inl (subst (λ (n : ℕ). CountsTold n c r) same h)
after-more r a b c (inr more) h = inr (subst (λ (n : ℕ). CountsTold n c r) more h)

-- the count of an answer is that of its calls
pub reads-told : {T : Type 0} (one_copy : Bool) (r : Result T Fault) (a b : ℕ) → CountsTold a b r → CountsReads one_copy a b r
reads-told true r a b h = inl h
reads-told false r a b h = h

-- reads that went well, and then one more call
pub reads-then : {T S : Type 0} (one_copy : Bool) (x : T) (r : Result S Fault) (a b c : ℕ) → CountsReads one_copy a b (Ok x) → CountsTold b c r → CountsReads one_copy a c r
reads-then true x r a b c (inl same) h = inl (subst (λ (n : ℕ). CountsTold n c r) same h)
reads-then true x r a b c (inr more) h = inr (subst (λ (n : ℕ). CountsTold n c r) more h)
reads-then false x r a b c same h = subst (λ (n : ℕ). CountsTold n c r) same h

-- the refusal of the first read, and at most one more failure
then-more : (T S : Type 0) (f : Fault) (a b c : ℕ) → CountsTold {T = T} a b (Err f) → IsOneMore b c → CountsReads {T = S} true a c (Err f)
then-more T S (CannotRead path) a b c h (inl same) = inl (same ∙ h)
then-more T S (CannotRead path) a b c h (inr more) = inr (more ∙ ap counted h)
then-more T S (CannotWrite path) a b c h (inl same) = inl (same ∙ h)
then-more T S (CannotWrite path) a b c h (inr more) = inr (more ∙ ap counted h)
then-more T S f a b c h (inl same) = inl (same ∙ h)
then-more T S f a b c h (inr more) = inr (more ∙ ap counted h)

-- one failure more at the first call, or at the second
first-more : (a b c : ℕ) → IsOneMore a b → c ≡ b → IsOneMore a c
first-more a b c h same = subst (IsOneMore a) (sym same) h

second-more : (a b c : ℕ) → b ≡ a → IsOneMore b c → IsOneMore a c
second-more a b c same h = subst (λ (n : ℕ). IsOneMore n c) same h

-- the answer to a pair of which one copy is enough
pub pair-counts : (program : List ℕ) (first second : SoughtCopy) (err err' : Sink) (r : Result Images Fault) (a b c : ℕ) → CountsSought a b (Ok first) → CountsSought b c (Ok second)
    → Joins program first second err err' r → CountsReads true a c r
pair-counts program (Read x) (Read y) err err' (Ok images) a b c h i j = inl (i ∙ h)
pair-counts program (Read x) (Read y) err err' (Err f) a b c h i j = subst (λ (f : Fault). CountsReads {T = Images} true a c (Err f)) (sym j) (inl (i ∙ h))
pair-counts program (Read x) (Lost place fault) err err' (Ok images) a b c h i j = second-more a b c h (one-more (Unit {0}) fault b c i)
pair-counts program (Read x) (Lost place fault) err err' (Err f) a b c h i j =
    subst (λ (f : Fault). CountsReads {T = Images} true a c (Err f)) (sym j) (second-more a b c h (one-more (Unit {0}) fault b c i))
pair-counts program (Lost place fault) (Read y) err err' (Ok images) a b c h i j = first-more a b c (one-more (Unit {0}) fault a b h) i
pair-counts program (Lost place fault) (Read y) err err' (Err f) a b c h i j =
    subst (λ (f : Fault). CountsReads {T = Images} true a c (Err f)) (sym j) (first-more a b c (one-more (Unit {0}) fault a b h) i)
pair-counts program (Lost place fault) (Lost other more) err err' (Ok images) a b c h i j = absurd j
pair-counts program (Lost place fault) (Lost other more) err err' (Err f) a b c h i j =
    subst (λ (f : Fault). CountsReads {T = Images} true a c (Err f)) (sym j) (then-more (Unit {0}) Images fault a b c h (one-more (Unit {0}) more b c i))

-- memory ran out at the second copy
pub second-unsought : (first : SoughtCopy) (a b c : ℕ) → CountsSought a b (Ok first) → c ≡ b → CountsReads {T = Images} true a c (Err Memory)
second-unsought (Read x) a b c h same = inl (same ∙ h)
second-unsought (Lost place fault) a b c h same = first-more a b c (one-more (Unit {0}) fault a b h) same
