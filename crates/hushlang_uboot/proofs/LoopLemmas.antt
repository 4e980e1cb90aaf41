-- A loop that makes one of each.
use Rattle.std.proofs.Common.{◌≡◌, ◌∙◌, refl, sym, ap, List, [], ◌∷◌, ◌++◌, map, length, append_assoc, append-nil}
use Rattle.std.proofs.lemmas.List.{map_push}
use Rattle.std.proofs.lemmas.Simd.{map-map}

pub none_left : {A : Type 0} (items : List A) → length items ≡ 0 → items ≡ []
none_left [] none = refl
none_left (x ∷ items) none = absurd (cc)

pub made_next : {A B C : Type 0} (view : B → C) (make : A → C) (before after : List B) (these rest all : List A) (x : A) (made : B) → these ≡ x ∷ rest → after ≡ before ++ made ∷ [] → view made ≡ make x → map view before ++ map make these ≡ map make all → map view after ++ map make rest ≡ map make all
made_next view make before after these rest all x made first pushed is same =
    ap (λ items. map view items ++ map make rest) pushed
    ∙ ap (λ items. items ++ map make rest) (map_push view before made ∙ ap (λ one. map view before ++ one ∷ []) is)
    ∙ append_assoc (map view before) (make x ∷ []) (map make rest)
    ∙ ap (λ items. map view before ++ map make items) (sym first)
    ∙ same

pub made_all : {A B C D : Type 0} (view : B → C) (make : D → C) (shown : A → D) (made : List B) (these all : List A) → these ≡ [] → map view made ++ map (λ x. make (shown x)) these ≡ map (λ x. make (shown x)) all → map view made ≡ map make (map shown all)
made_all view make shown made these all none same =
    sym (append-nil (map view made)) ∙ ap (λ items. map view made ++ map (λ x. make (shown x)) items) (sym none) ∙ same ∙ sym (map-map make shown all)
