-- The states that the table holds, and how many bytes they count.
use Rattle.std.proofs.Common.{ℕ, ◌+◌, ◌<◌, List, [], ◌∷◌, ◌++◌, length, reverse, map, sum_by, refl, sym, ap, subst, ◌∙◌, ◌≡◌, arith, length-append}
use Rattle.std.specs.List.{AllByRecursion}
use Rattle.std.proofs.lemmas.List.{length-map, length-reverse, map-append}
use Rattle.std.proofs.lemmas.List.Sums.{sum_by-append, sum_by-cons}
use Rattle.bootstore_state.specs.Moment.{Moment, RunningFrame}
use Rattle.rehearse_terms.specs.Outcomes.{OutcomeWord}
use Rattle.rehearse_terms.specs.State.{Text}
use Rattle.rehearse_rules.specs.Runs.{Task}
use Rattle.rehearse_machine.specs.declared.rehearsal.Stop.TheVariants.{Asks}
use Rattle.rehearse_reads.specs.Keys.{Key}
use Rattle.rehearse_frames.specs.Above.{above}
use Rattle.rehearse_reports.specs.Known.{AllHold, keys_of}
use Rattle.rehearse_reports.specs.declared.known.Known.{Known}
use Rattle.rehearse_states.specs.Summaries.{Summary}
use Rattle.rehearse_endings.specs.Held.{ComesToBytes, HasNoRoom, Held, HoldsStates, IsHeld, most_held, size_of, size_of_entry, size_of_held}
use Rattle.rehearse_endings.specs.Searching.{SummedFrom}
use Rattle.rehearse_endings.specs.States.{AreApart, AreKeptAs, Asked, HasEntered, Searched, frames_in}
use Rattle.rehearse_endings.specs.declared.entry.Entry.{Entry}
use Rattle.rehearse_endings.specs.declared.table.Table.{Table}
use Rattle.rehearse_endings.proofs.EnteredStateLemmas.{all_and, searched_last}
use Rattle.rehearse_endings.proofs.SearchLemmas.{Both}

-- ---- sizes

-- frames count the same in any order
same_size : (frames others : List RunningFrame) (known : List Known) → reverse frames ≡ others → size_of others known ≡ size_of frames known
same_size frames others known e =
    let n : length others ≡ length frames = sym (ap length e) ∙ length-reverse frames in
    omega (arith, n)

-- what is left, by what the frames and what is known are
pub left_of : (room left : ℕ) (frames others : List RunningFrame) (known more : List Known) → frames ≡ others → known ≡ more → left + size_of frames known ≡ room → left + size_of others more ≡ room
left_of room left frames others known more f k e =
    subst (λ (ks : List Known). left + size_of others ks ≡ room) k (subst (λ (fs : List RunningFrame). left + size_of fs known ≡ room) f e)

-- one more entry takes its bytes from the room
pub held_more : (old new : Table) (e : Entry) → new.entries.items ≡ old.entries.items ++ e ∷ [] → new.room + size_of_entry e ≡ old.room → most_held new ≡ most_held old
held_more old new e entries room =
    let a : sum_by size_of_entry new.entries.items ≡ sum_by size_of_entry (old.entries.items ++ e ∷ []) = ap (sum_by size_of_entry) entries in
    let b = sum_by-append size_of_entry old.entries.items (e ∷ []) in
    omega (arith, a, b, room)

-- what a moment has at keys, where the frames are in the other order
pub no_room : (room below : ℕ) (m : Moment) (keys : List Key) (frames : List RunningFrame) (known : List Known) → reverse frames ≡ above below m.frames → AllHold m known → keys_of known ≡ keys → room < size_of frames known → HasNoRoom room below m keys
no_room room below m keys frames known same holds are l = (known, holds, are, (let e = same_size frames (above below m.frames) known same in omega (arith, e, l)))

-- ---- states

-- states that were searched, with what their entries know
record HoldsAll (searched : List Searched) (entries : List Entry) : Type 0 where
  pub states : List Held
  pub are : map (λ h. h.state) states ≡ searched
  pub known : AllByRecursion IsHeld states
  pub sizes : sum_by size_of_held states ≡ sum_by size_of_entry entries

holds_all : (searched : List Searched) (entries : List Entry) → AreKeptAs searched entries → HoldsAll searched entries
holds_all [] [] h = record { states = []; are = refl; known = tt; sizes = refl }
holds_all [] (e ∷ entries) h = absurd h
holds_all (s ∷ searched) [] h = absurd h
holds_all (s ∷ searched) (e ∷ entries) h =
    let rest = holds_all searched entries h.1 in
    let one : Held = record { state = s; known = e.known.items } in
    let same = same_size e.frames.items (frames_in s) e.known.items h.0.frames in
    let a = sum_by-cons size_of_held one rest.states in
    let b = sum_by-cons size_of_entry e entries in
    let c = rest.sizes in
    record {
      states = one ∷ rest.states;
      are = ap (λ (ss : List Searched). s ∷ ss) rest.are;
      known = (record { known = h.0.known; keys = h.0.keys }, rest.known);
      sizes = omega (arith, same, a, b, c);
    }

-- the states that have entries, and one that was searched but has no room
pub too_large : (names : List Text) (task : Task) (p : OutcomeWord) (m : Moment) (begun : List Asked) (table : Table) (below : ℕ) (keys : List Key) (shown : Summary) → HasEntered names task ((p, m) ∷ begun) table → HasNoRoom table.room below m keys
    → Both names task.limits below m keys → SummedFrom names task.limits Asks m shown → ComesToBytes names task table.visited (most_held table)
too_large names task p m begun table below keys shown has none both summed = (
  all.states ++ one ∷ [],
  begun,
  (let a = length-append all.states (one ∷ []) in let b = length-map all.states (λ (h : Held). h.state) in let c = ap length all.are in let d = has.1.many in omega (arith, a, b, c, d)),
  (subst (λ (ss : List Searched). AreApart names task ss begun) (sym are) apart, all_and IsHeld all.states (one ∷ []) all.known (record { known = none.1; keys = none.2 }, tt)),
  (let a = sum_by-append size_of_held all.states (one ∷ []) in let b = all.sizes in let c = none.3 in omega (arith, a, b, c)),
)
  where
    all : HoldsAll has.0 table.entries.items
    all = holds_all has.0 table.entries.items has.1.kept_as

    s : Searched
    s = record { asked = (p, m); below = below; keys = keys; to_come = summed.0 }

    one : Held
    one = record { state = s; known = none.0 }

    apart : AreApart names task (has.0 ++ s ∷ []) begun
    apart = searched_last names task begun has.0 s has.1.apart (record { met = has.1.apart.met.0; enough = both.enough; apart = both.never; sums = summed.1 })

    are : map (λ h. h.state) (all.states ++ one ∷ []) ≡ has.0 ++ s ∷ []
    are = map-append (λ (h : Held). h.state) all.states (one ∷ []) ∙ ap (λ (ss : List Searched). ss ++ s ∷ []) all.are

-- all states of a whole search
pub whole_held : (names : List Text) (task : Task) (table : Table) (bytes : ℕ) → most_held table ≡ bytes → HasEntered names task [] table → HoldsStates names task table.visited bytes
whole_held names task table bytes most has =
    let all = holds_all has.0 table.entries.items has.1.kept_as in (
      all.states,
      (let a = length-map all.states (λ (h : Held). h.state) in let b = ap length all.are in let c = has.1.many in omega (arith, a, b, c)),
      (subst (λ (ss : List Searched). AreApart names task ss []) (sym all.are) has.1.apart, all.known),
      (let d = all.sizes in omega (arith, d, most)),
    )
