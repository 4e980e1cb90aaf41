-- An image that was read within the limit is the whole input; what the output has if the input is refused.
use Rattle.std.proofs.Common.{◌≡◌, ◌≤◌, ◌++◌, ◌∷◌, ℕ, Bool, true, List, [], length, take, min, refl, Option, None, Some, Ok, Err, sym, subst, ap, ◌∙◌, inl, inr, arith, length-take}
use Rattle.std.proofs.lemmas.Bool.{cases_Bool}
use Rattle.std.proofs.lemmas.Bool.Decides.{nat_tests}
use Rattle.std.proofs.lemmas.List.{take_all}
use Rattle.std.specs.Prelude.{IfOk, IfSome, Result}
use Rattle.std.specs.declared.alloc.Global.{Global}
use Rattle.std.specs.declared.vec.Vec.{Vec}
use Rattle.tool_files.specs.declared.input.ReadFault.{ReadFault}
use Rattle.tool_files.specs.declared.input.ReadFault.TheVariants as read
use Rattle.envimage.specs.declared.image.ImageError.{ImageError}
use Rattle.envimage.specs.Data.{Pair}
use Rattle.envimage.specs.Image.{is_size}
use Rattle.envimage.specs.declared.image.ByteOrder.TheVariants.{Little}
use Rattle.output.specs.Sink.{BrokeOff, Sink, Wrote}
use Rattle.output.proofs.SinkLemmas.{Wrote-none}
use Rattle.envtools.specs.Printing.{plain, printed_output}
use Rattle.output.specs.Outputs.{WroteFront, Outputs}
use Rattle.tool_images.specs.Input.{FrontStands, IsQuiet, PrintsFront, PrintsInput, PrintsRead, RefusesInput}
use Rattle.tool_images.specs.PrintingImages.{environment_in, Prints, PrintsAll}
use Rattle.tool_images.specs.declared.error.ToolError.{ToolError}
use Rattle.tool_images.specs.declared.error.ToolError.TheVariants as tool
use Rattle.tool_images.specs.declared.fault.Fault.{Fault}

at_most : (n : ℕ) → is_size 5 n ≡ true → n ≤ 1048576
at_most n e = grind (arith, nat_tests)

-- a single image that is loaded is within the limit
image-size : (bytes : List ℕ) (env : List Pair) → environment_in Little bytes None ≡ Ok env → length bytes ≤ 1048576
image-size bytes env e =
    elim (cases_Bool (is_size 5 (length bytes))) [
      | inl yes_size ↦ at_most (length bytes) yes_size
      | inr no_size ↦ let refused = rw no_size at e in cc
    ]

-- a single image within the limit is the whole input
whole-input : (xs read : List ℕ) (env : List Pair) → read ≡ take 1048577 xs → environment_in Little read None ≡ Ok env → read ≡ xs
whole-input xs read env is there =
    let short : length read ≤ 1048576 = image-size read env there in
    let taken : length read ≡ min 1048577 (length xs) = rw is (length-take 1048577 xs) in
    let all : length xs ≤ 1048577 = omega (arith, short, taken) in
    is ∙ take_all 1048577 xs all

input-printed : (left : Option (List ℕ)) (s : Outputs) (read : List ℕ) (found : Bool) → IfSome left (λ xs. read ≡ take 1048577 xs)
    → PrintsAll (environment_in Little read None) [] plain s found → PrintsInput left s.out s.out'
input-printed None s read found is p = tt
input-printed (Some xs) s read found is p =
    (p.env, ap (λ bytes. environment_in Little bytes None) (sym (whole-input xs read p.env is p.there)) ∙ p.there, p.output)

-- ---- an input that is refused

front-printed : (left : Option (List ℕ)) (old new : Sink) (read : List ℕ) (env : List Pair) → IfSome left (λ xs. read ≡ take 1048577 xs)
    → environment_in Little read None ≡ Ok env → FrontStands old new (printed_output env [] plain) → PrintsFront left old new
front-printed None old new read env is there front = (env, front)
front-printed (Some xs) old new read env is there front =
    (env, ap (λ bytes. environment_in Little bytes None) (sym (whole-input xs read env is there)) ∙ there, front)

broke-off : (old new : Sink) (text : List ℕ) → BrokeOff old new text → FrontStands old new text
broke-off old new text b = record { front = b.front; rest = b.rest; whole = b.whole; bytes = b.bytes }

wrote-front : (old new : Sink) (text : List ℕ) → WroteFront old new text → FrontStands old new text
wrote-front old new text w = record { front = w.front; rest = w.rest; whole = w.whole; bytes = w.wrote.bytes }

input-refused : (left : Option (List ℕ)) (s : Outputs) (read : List ℕ) (error : ToolError) → IfSome left (λ xs. read ≡ take 1048577 xs)
    → Prints (environment_in Little read None) [] plain s (Err error) → RefusesInput left s.out s.out'
input-refused left s read (tool.Image e) is p = inl p.1.out
input-refused left s read tool.Memory is p = inl p.1.out
input-refused left s read tool.Write is p =
    elim p.broken [
      | inl b ↦ inr (front-printed left s.out s.out' read p.env is p.there (broke-off s.out s.out' (printed_output p.env [] plain) b.0))
      | inr b ↦ inr (front-printed left s.out s.out' read p.env is p.there (wrote-front s.out s.out' (printed_output p.env [] plain) b.0))
    ]
input-refused left s read (tool.Env e) is p = absurd p
input-refused left s read (tool.Script e) is p = absurd p

-- ---- the error output of an input that is refused

unwritten : (old new : Sink) → new ≡ old → IsQuiet old new
unwritten old new is = let P : Sink → Type 0 = λ s. IsQuiet old s in subst P (sym is) (inl (Wrote-none old))

front-none : (front rest : List ℕ) → [] ≡ front ++ rest → front ≡ []
front-none [] rest e = refl
front-none (b ∷ front) rest e = cc

front-quiet : (old new : Sink) → WroteFront old new [] → IsQuiet old new
front-quiet old new w = let P : List ℕ → Type 0 = λ t. Wrote old new t in inl (subst P (front-none w.front w.rest w.whole) w.wrote)

input-untold : (answer : Result (List Pair) ImageError) (s : Outputs) (error : ToolError) → Prints answer [] plain s (Err error) → IsQuiet s.err s.err'
input-untold answer s (tool.Image e) p = unwritten s.err s.err' p.1.err
input-untold answer s tool.Memory p = unwritten s.err s.err' p.1.err
input-untold answer s tool.Write p = elim p.broken [ inl b ↦ front-quiet s.err s.err' b.1 | inr b ↦ inr b.1 ]
input-untold answer s (tool.Env e) p = absurd p
input-untold answer s (tool.Script e) p = absurd p

-- ---- what was read, or why nothing was

-- what was read is the input's bytes up to the limit
abbrev pub ReadsFrom : Option (List ℕ) → Result (Vec ℕ Global) ReadFault → Type 0
ReadsFrom left answer = IfOk answer (λ bytes. IfSome left (λ xs. bytes.items ≡ take 1048577 xs))

pub read-printed : (left : Option (List ℕ)) (s : Outputs) (answer : Result (Vec ℕ Global) ReadFault) → ReadsFrom left answer
    → PrintsRead answer s (Ok tt) → PrintsInput left s.out s.out'
read-printed left s (Ok bytes) is p = input-printed left s bytes.items p.0 is p.1
read-printed left s (Err read.Failed) is p = let none : ⊥ = cc in absurd none
read-printed left s (Err read.Memory) is p = let none : ⊥ = cc in absurd none

pub read-refused : (left : Option (List ℕ)) (s : Outputs) (answer : Result (Vec ℕ Global) ReadFault) (fault : Fault) → ReadsFrom left answer
    → PrintsRead answer s (Err fault) → RefusesInput left s.out s.out'
read-refused left s (Ok bytes) fault is p = input-refused left s bytes.items p.0 is p.2
read-refused left s (Err read.Failed) fault is p = inl p.1.out
read-refused left s (Err read.Memory) fault is p = inl p.1.out

pub read-untold : (s : Outputs) (answer : Result (Vec ℕ Global) ReadFault) (fault : Fault) → PrintsRead answer s (Err fault) → IsQuiet s.err s.err'
read-untold s (Ok bytes) fault p = input-untold _ s p.0 p.2
read-untold s (Err read.Failed) fault p = unwritten s.err s.err' p.1.err
read-untold s (Err read.Memory) fault p = unwritten s.err s.err' p.1.err
