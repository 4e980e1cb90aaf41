-- Keys that are enough at an end, and where a device command asks.
use Rattle.std.proofs.Common.{◌≡◌, ◌∙◌, refl, sym, ap, subst, List, [], ◌∷◌, ◌++◌, map, Bor, ℕ}
use Rattle.rehearse_reads.specs.Keys.{Key, Environment, Access, AreAmong, all_read, keys_in_front, keys_read}
use Rattle.rehearse_reads.proofs.KeysRead.{all_of_more}
use Rattle.rehearse_frames.specs.ToCome.{names_read}
use Rattle.rehearse_reports.specs.Reports.{AreAlike, Reports}
use Rattle.rehearse_reports.proofs.FrontLemmas.{reads_before}

abbrev pub named_keys : List (Bor (List ℕ)) → List Key
named_keys names = map (λ n. Environment n.now) names

pub keys_of_names : (names : List (Bor (List ℕ))) → keys_read (names_read (map (λ n. n.now) names)) ≡ named_keys names
keys_of_names [] = refl
keys_of_names (name ∷ names) = ap (λ (keys : List Key). Environment name.now ∷ keys) (keys_of_names names)

-- of several keys
all_both : (some more keys : List Key) → AreAmong some keys → AreAmong more keys → AreAmong (some ++ more) keys
all_both [] more keys h k = k
all_both (key ∷ some) more keys h k = (h.0, all_both some more keys h.1 k)

pub among_first : (some more keys : List Key) → AreAmong (some ++ more) keys → AreAmong some keys
among_first [] more keys h = tt
among_first (key ∷ some) more keys h = (h.0, among_first some more keys h.1)

pub among_then : (some more keys : List Key) → AreAmong (some ++ more) keys → AreAmong more keys
among_then [] more keys h = h
among_then (key ∷ some) more keys h = among_then some more keys h.1

-- keys that were gathered in three turns
pub gathered : (start first one second two third three keys : List Key) → AreAlike (start ++ first) one → AreAlike (one ++ second) two → AreAlike (two ++ third) three → keys ≡ three
    → AreAmong first keys × AreAmong (second ++ third) keys
gathered start first one second two third three keys a b c same =
    let on : AreAmong two three = among_first two third three c.all in
    let of_first : AreAmong first three = all_of_more first one three (among_then start first one a.all) (all_of_more one two three (among_first one second two b.all) on) in
    let of_second : AreAmong second three = all_of_more second two three (among_then one second two b.all) on in (
      subst (AreAmong first) (sym same) of_first,
      subst (AreAmong (second ++ third)) (sym same) (all_both second third three of_second (among_then two third three c.all)),
    )

-- keys that were read in front of others
module _ (start new : List Access) (reads later keys : List Key) (none : start ≡ []) (reported : Reports start new (all_read reads)) (all : AreAmong (keys_in_front new later) keys) where
  front_among : AreAmong (reads ++ later) keys
  front_among =
      let covers : Reports [] new (all_read reads) = subst (λ (xs : List Access). Reports xs new (all_read reads)) none reported in
      all_of_more (reads ++ later) (keys_in_front new later) keys (subst (λ (ks : List Key). AreAmong ks (keys_in_front new later)) (reads_before reads later) (covers later)) all

  pub reads_among : AreAmong reads keys
  reads_among = among_first reads later keys front_among
