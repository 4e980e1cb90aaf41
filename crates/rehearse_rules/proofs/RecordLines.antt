-- The place where a listing that broke off goes on, found in its bytes.
use Rattle.std.proofs.Common.{ℕ, zero, suc, Bool, true, false, cond, List, [], ◌∷◌, ◌++◌, map, length, take, drop, Option, Some, None, refl, sym, ap, subst, ◌∙◌, ◌≡◌, ◌≢◌, ◌≤◌, append_assoc, append-nil, length-append, arith, ◌+◌, ◌/◌, ◌%◌, flat_map, nat_eq, nat_lt, nat_le, ◌&&◌, codes, ne_eqb, decimal}
use Rattle.std.specs.Prelude.{⊤}
use Rattle.std.specs.Fmt.{digits, digits_onto, digit_glyph}
use Rattle.device_list.specs.declared.finish.BoardEnd.{BoardEnd}
use Rattle.device_list.specs.declared.finish.BoardEnd.TheVariants.{Boots, Restarts, Halts}
use Rattle.rehearse_terms.specs.Outcomes.{OutcomeWord, Success, Failure}
use Rattle.rehearse_terms.specs.State.{Text, Variables, get, State, LoggedCommand}
use Rattle.rehearse_rules.specs.Execution.{Ending, End, CutDevices, CutSteps, Unknown, Syntax, Unsupported, Panic, Size, Finished}
use Rattle.text.specs.Escapes.{hex_digit, escaped, text_form, word_escaped, word_form}
use Rattle.text.specs.Words.{joined_words}
use Rattle.rehearse_rules.specs.Listing.{finish_word, digit_when, outcome_digit, spelled, line, device_line, text_lines, written_lines, variable_line, asked_line, saved_line, saved_lines, named_lines, variable_lines, last_line, inner_lines, record_lines}
use Rattle.device_list.specs.Saving.{saved_of}
use Rattle.rehearse_rules.specs.Resuming.{ended_lines, is_last_line, is_first_line, Point, point_in, resume_point_of}

-- no byte of it is a newline
abbrev pub IsOneLine : Text → Type 0
IsOneLine [] = ⊤
IsOneLine (b ∷ bytes) = (nat_eq b 10 ≡ false) × IsOneLine bytes

pub OneLine-append : (a b : Text) → IsOneLine a → IsOneLine b → IsOneLine (a ++ b)
OneLine-append [] b h k = k
OneLine-append (x ∷ a) b h k = (h.0, OneLine-append a b h.1 k)

OneLine-flat : (f : ℕ → Text) → ((b : ℕ) → IsOneLine (f b)) → (bytes : Text) → IsOneLine (flat_map f bytes)
OneLine-flat f h [] = tt
OneLine-flat f h (b ∷ bytes) = OneLine-append (f b) (flat_map f bytes) (h b) (OneLine-flat f h bytes)

hex-line : (d : ℕ) (t : Bool) → nat_eq (cond t (48 + d) (87 + d)) 10 ≡ false
hex-line d true = ne_eqb (48 + d) 10 (λ e. omega arith)
hex-line d false = ne_eqb (87 + d) 10 (λ e. omega arith)

plain-line : (b : ℕ) (t u : Bool) → nat_eq b 10 ≡ false → IsOneLine (cond t (codes "\\\\") (cond u (b ∷ []) (codes "\\x" ++ hex_digit (b / 16) ∷ hex_digit (b % 16) ∷ [])))
plain-line b true u e = (refl, (refl, tt))
plain-line b false true e = (e, tt)
plain-line b false false e = (refl, (refl, (hex-line (b / 16) (nat_lt (b / 16) 10), (hex-line (b % 16) (nat_lt (b % 16) 10), tt))))

escaped-at : (b : ℕ) (t : Bool) → nat_eq b 10 ≡ t → IsOneLine (cond t (codes "\\n") (cond (nat_eq b 92) (codes "\\\\") (cond (nat_le 32 b && nat_le b 126) (b ∷ []) (codes "\\x" ++ hex_digit (b / 16) ∷ hex_digit (b % 16) ∷ []))))
escaped-at b true e = (refl, (refl, tt))
escaped-at b false e = plain-line b (nat_eq b 92) (nat_le 32 b && nat_le b 126) e

escaped-line : (b : ℕ) → IsOneLine (escaped b)
escaped-line b = escaped-at b (nat_eq b 10) refl

text-line : (bytes : Text) → IsOneLine (text_form bytes)
text-line bytes = OneLine-flat escaped escaped-line bytes

space-line : (b : ℕ) (t : Bool) → IsOneLine (cond t (codes "\\x20") (escaped b))
space-line b true = (refl, (refl, (refl, (refl, tt))))
space-line b false = escaped-line b

word-line : (bytes : Text) → IsOneLine (word_form bytes)
word-line [] = (refl, (refl, tt))
word-line (b ∷ bytes) = OneLine-flat word_escaped (λ c. space-line c (nat_eq c 32)) (b ∷ bytes)

-- lines that end are found as they were written, and the rest has none
pub lines-of-line : (part l : Text) (bytes : Text) → IsOneLine l → ended_lines part (l ++ 10 ∷ bytes) ≡ (part ++ l) ∷ ended_lines [] bytes
lines-of-line part [] bytes h = ap (λ (x : Text). x ∷ ended_lines [] bytes) (sym (append-nil part))
lines-of-line part (b ∷ l) bytes h = let e = h.0 in rw (e, ended_lines) (lines-of-line (part ++ b ∷ []) l bytes h.1 ∙ ap (λ (x : Text). x ∷ ended_lines [] bytes) (append_assoc part (b ∷ []) l))

no-line : (part l : Text) → IsOneLine l → ended_lines part l ≡ []
no-line part [] h = refl
no-line part (b ∷ l) h = let e = h.0 in rw (e, ended_lines) (no-line (part ++ b ∷ []) l h.1)

abbrev pub AreLines : List Text → Type 0
AreLines [] = ⊤
AreLines (l ∷ ls) = IsOneLine l × AreLines ls

pub lines-of : (ls : List Text) (rest : Text) → AreLines ls → ended_lines [] (flat_map line ls ++ rest) ≡ ls ++ ended_lines [] rest
lines-of [] rest h = refl
lines-of (l ∷ ls) rest h =
    let one = lines-of-line [] l (flat_map line ls ++ rest) h.0 in
    let two = lines-of ls rest h.1 in
    let three : (flat_map line (l ∷ ls) ++ rest) ≡ l ++ 10 ∷ (flat_map line ls ++ rest) = simp append_assoc in
    ap (ended_lines []) three ∙ one ∙ ap (λ (x : List Text). l ∷ x) two

OneLine-join : (ws : List Text) → AreLines ws → IsOneLine (joined_words ws)
OneLine-join [] h = tt
OneLine-join (w ∷ []) h = h.0
OneLine-join (w ∷ v ∷ ws) h = OneLine-append w (32 ∷ joined_words (v ∷ ws)) h.0 (refl, OneLine-join (v ∷ ws) h.1)

words-lines : (ws : List Text) → AreLines (map word_form ws)
words-lines [] = tt
words-lines (w ∷ ws) = (word-line w, words-lines ws)

digits-line : (w : OutcomeWord) → IsOneLine (map outcome_digit w)
digits-line [] = tt
digits-line (Success ∷ w) = (refl, digits-line w)
digits-line (Failure ∷ w) = (refl, digits-line w)

pub spelled-line : (w : OutcomeWord) → IsOneLine (spelled w)
spelled-line [] = (refl, tt)
spelled-line (d ∷ w) = digits-line (d ∷ w)

-- a line within a record, neither its first nor its last
abbrev pub IsInner : Text → Type 0
IsInner l = IsOneLine l × (is_last_line l ≡ false) × (is_first_line l ≡ false)

abbrev pub AreInner : List Text → Type 0
AreInner [] = ⊤
AreInner (l ∷ ls) = IsInner l × AreInner ls

Inner-append : (a b : List Text) → AreInner a → AreInner b → AreInner (a ++ b)
Inner-append [] b h k = k
Inner-append (x ∷ a) b h k = (h.0, Inner-append a b h.1 k)

digit-line : (success : Bool) → nat_eq (digit_when success) 10 ≡ false
digit-line true = refl
digit-line false = refl

devices-inner : (log : List LoggedCommand) → AreInner (map device_line log)
devices-inner [] = tt
devices-inner (e ∷ log) = (((refl, (refl, (refl, (refl, (digit-line e.success, (refl, OneLine-join (map word_form e.words) (words-lines e.words))))))), refl, refl), devices-inner log)

text-inner : (bytes : Text) → AreInner (text_lines bytes)
text-inner [] = tt
text-inner (b ∷ bytes) = (((refl, (refl, (refl, (refl, (refl, text-line (b ∷ bytes)))))), refl, refl), tt)

written-inner : (text : Option Text) → AreInner (written_lines text)
written-inner None = tt
written-inner (Some bytes) = text-inner bytes

variable-inner : (name value : Text) → IsInner (variable_line (name, value))
variable-inner name value = ((refl, (refl, (refl, (refl, OneLine-append (word_form name ++ codes "=") (text_form value) (OneLine-append (word_form name) (codes "=") (word-line name) (refl, tt)) (text-line value))))), refl, refl)

unset-inner : (name : Text) → IsInner (codes "unset " ++ word_form name)
unset-inner name = ((refl, (refl, (refl, (refl, (refl, (refl, word-line name)))))), refl, refl)

all-inner : (environment : Variables) → AreInner (map variable_line environment)
all-inner [] = tt
all-inner (e ∷ environment) = (variable-inner e.0 e.1, all-inner environment)

asked-inner : (o : Option Text) (name : Text) → IsInner (elim o [ Some value ↦ variable_line (name, value) | None ↦ codes "unset " ++ word_form name ])
asked-inner (Some value) name = variable-inner name value
asked-inner None name = unset-inner name

saved-inner : (name copy : Text) → IsInner (saved_line name copy)
saved-inner name [] = ((refl, (refl, (refl, (refl, (refl, (refl, (refl, (refl, (refl, (refl, (refl, (refl, word-line name)))))))))))), refl, refl)
saved-inner name (b ∷ value) = ((refl, (refl, (refl, (refl, (refl, (refl, OneLine-append (word_form name ++ codes "=") (text_form value) (OneLine-append (word_form name) (codes "=") (word-line name) (refl, tt)) (text-line value))))))), refl, refl)

copy-inner : (name : Text) (copy : Option Text) → AreInner (saved_lines name copy)
copy-inner name None = tt
copy-inner name (Some copy) = (saved-inner name copy, tt)

named-inner : (environment : Variables) (name : Text) (variable : Option Text)
    → AreInner (elim variable [ None ↦ asked_line environment name ∷ [] | Some of ↦ saved_lines of (get environment name) ])
named-inner environment name None = (asked-inner (get environment name) name, tt)
named-inner environment name (Some variable) = copy-inner variable (get environment name)

each-inner : (environment : Variables) (names : List Text) → AreInner (flat_map (named_lines environment) names)
each-inner environment [] = tt
each-inner environment (name ∷ names) = Inner-append (named_lines environment name) (flat_map (named_lines environment) names) (named-inner environment name (saved_of name)) (each-inner environment names)

variables-inner : (environment : Variables) (names : List Text) → AreInner (variable_lines environment names)
variables-inner environment [] = all-inner environment
variables-inner environment (name ∷ names) = each-inner environment (name ∷ names)

pub inner-inner : (s : State) (names : List Text) → AreInner (inner_lines s names)
inner-inner s names = Inner-append (map device_line s.log ++ written_lines s.memory.text) (variable_lines s.memory.environment names) (Inner-append (map device_line s.log) (written_lines s.memory.text) (devices-inner s.log) (written-inner s.memory.text)) (variables-inner s.memory.environment names)

last-is-last : (e : Ending) → is_last_line (last_line e) ≡ true
last-is-last (End status) = refl
last-is-last CutDevices = refl
last-is-last CutSteps = refl
last-is-last (Unknown name) = refl
last-is-last (Syntax name) = refl
last-is-last (Unsupported name) = refl
last-is-last (Panic name) = refl
last-is-last Size = refl
last-is-last (Finished Boots name) = refl
last-is-last (Finished Restarts name) = refl
last-is-last (Finished Halts name) = refl

-- how many bytes the lines take
abbrev pub bytes_of : List Text → ℕ
bytes_of [] = 0
bytes_of (l ∷ ls) = suc (length l) + bytes_of ls

pick-inner : (l : Text) (word : Option Text) (point : Option Point) (at : ℕ) (ls : List Text) → IsInner l → point_in word point at (l ∷ ls) ≡ point_in word point (at + suc (length l)) ls
pick-inner l word point at ls h = let e = h.1 in let f = h.2 in rw (e, f, point_in) refl

-- the lines within a record change nothing
past-inner : (ms : List Text) (word : Option Text) (point : Option Point) (at : ℕ) (ls : List Text) → AreInner ms → point_in word point at (ms ++ ls) ≡ point_in word point (at + bytes_of ms) ls
past-inner [] word point at ls h = ap (λ (n : ℕ). point_in word point n ls) (omega arith)
past-inner (m ∷ ms) word point at ls h =
    let f : at + suc (length m) + bytes_of ms ≡ at + (suc (length m) + bytes_of ms) = omega arith in
    pick-inner m word point at (ms ++ ls) h.0 ∙ past-inner ms word point (at + suc (length m)) ls h.1 ∙ ap (λ (n : ℕ). point_in word point n ls) f

-- a whole record gives its word, and the place after the record
pub past-record : (w : OutcomeWord) (s : State) (e : Ending) (names : List Text) (word : Option Text) (point : Option Point) (at : ℕ) (ls : List Text) → let n = at + suc (length (codes "run " ++ spelled w)) + bytes_of (inner_lines s names) + suc (length (last_line e)) in point_in word point at (record_lines w s e names ++ ls) ≡ point_in (Some (spelled w)) (Some (record { word = spelled w; length_before = n })) n ls
past-record w s e names word point at ls =
    let start : Text = codes "run " ++ spelled w in
    let inner : List Text = inner_lines s names in
    let here : ℕ = at + suc (length start) in
    let one : point_in word point at (record_lines w s e names ++ ls) ≡ point_in (Some (spelled w)) point here ((inner ++ last_line e ∷ []) ++ ls) = refl in
    let two : point_in (Some (spelled w)) point here ((inner ++ last_line e ∷ []) ++ ls) ≡ point_in (Some (spelled w)) point here (inner ++ (last_line e ∷ ls)) = ap (point_in (Some (spelled w)) point here) (append_assoc inner (last_line e ∷ []) ls) in
    let three = past-inner inner (Some (spelled w)) point here (last_line e ∷ ls) (inner-inner s names) in
    let l = last-is-last e in
    let four : point_in (Some (spelled w)) point (here + bytes_of inner) (last_line e ∷ ls) ≡ point_in (Some (spelled w)) (Some (record { word = spelled w; length_before = here + bytes_of inner + suc (length (last_line e)) })) (here + bytes_of inner + suc (length (last_line e))) ls = rw (l, point_in) refl in
    one ∙ two ∙ three ∙ four

choice-line : (b : Bool) (x y : Text) → IsOneLine x → IsOneLine y → IsOneLine (cond b x y)
choice-line true x y h k = h
choice-line false x y h k = k

digits_onto-line : (k n : ℕ) (acc : Text) → IsOneLine acc → IsOneLine (digits_onto k 10 false n acc)
digits_onto-line zero n acc h = h
digits_onto-line (suc k) n acc h =
    let digit = hex-line (n % 10) (nat_lt (n % 10) 10) in
    choice-line (nat_eq (n / 10) 0) (digit_glyph false (n % 10) ∷ acc) (digits_onto k 10 false (n / 10) (digit_glyph false (n % 10) ∷ acc)) (digit, h) (digits_onto-line k (n / 10) (digit_glyph false (n % 10) ∷ acc) (digit, h))

decimal-line : (n : ℕ) → IsOneLine (decimal n)
unfolding digits
decimal-line n = digits_onto-line 64 n [] tt

finish-line : (finish : BoardEnd) → IsOneLine (finish_word finish)
finish-line Boots = (refl, (refl, (refl, (refl, (refl, (refl, (refl, tt)))))))
finish-line Restarts = (refl, (refl, (refl, (refl, (refl, (refl, (refl, (refl, (refl, (refl, tt))))))))))
finish-line Halts = (refl, (refl, (refl, (refl, (refl, (refl, (refl, tt)))))))

last-line : (e : Ending) → IsOneLine (last_line e)
last-line (End status) = (refl, (refl, (refl, (refl, decimal-line status))))
last-line CutDevices = (refl, (refl, (refl, (refl, (refl, (refl, (refl, (refl, (refl, (refl, (refl, tt)))))))))))
last-line CutSteps = (refl, (refl, (refl, (refl, (refl, (refl, (refl, (refl, (refl, tt)))))))))
last-line (Unknown name) = OneLine-append (codes "stop unknown ") (word_form name) (refl, (refl, (refl, (refl, (refl, (refl, (refl, (refl, (refl, (refl, (refl, (refl, (refl, tt))))))))))))) (word-line name)
last-line (Syntax name) = OneLine-append (codes "stop syntax ") (word_form name) (refl, (refl, (refl, (refl, (refl, (refl, (refl, (refl, (refl, (refl, (refl, (refl, tt)))))))))))) (word-line name)
last-line (Unsupported name) = OneLine-append (codes "stop unsupported ") (word_form name) (refl, (refl, (refl, (refl, (refl, (refl, (refl, (refl, (refl, (refl, (refl, (refl, (refl, (refl, (refl, (refl, (refl, tt))))))))))))))))) (word-line name)
last-line (Panic name) = OneLine-append (codes "stop panic ") (word_form name) (refl, (refl, (refl, (refl, (refl, (refl, (refl, (refl, (refl, (refl, (refl, tt))))))))))) (word-line name)
last-line Size = (refl, (refl, (refl, (refl, (refl, (refl, (refl, (refl, (refl, tt)))))))))
last-line (Finished finish name) = OneLine-append (finish_word finish) (word_form name) (finish-line finish) (word-line name)

inner-lines : (ms : List Text) (l : Text) → AreInner ms → IsOneLine l → AreLines (ms ++ l ∷ [])
inner-lines [] l h k = (k, tt)
inner-lines (m ∷ ms) l h k = (h.0.0, inner-lines ms l h.1 k)

-- every line of a record is one line, so the lines are found again in its bytes
pub record-lines : (w : OutcomeWord) (s : State) (e : Ending) (names : List Text) → AreLines (record_lines w s e names)
record-lines w s e names = ((refl, (refl, (refl, (refl, spelled-line w)))), inner-lines (inner_lines s names) (last_line e) (inner-inner s names) (last-line e))

-- what a run's record is made of
pub record Told : Type 0 where
  pub word : OutcomeWord
  pub state : State
  pub ending : Ending

abbrev pub told_lines : List Text → Told → List Text
told_lines names r = record_lines r.word r.state r.ending names

abbrev pub told_length : List Text → Told → ℕ
told_length names r = suc (length (codes "run " ++ spelled r.word)) + bytes_of (inner_lines r.state names) + suc (length (last_line r.ending))

-- the point after some records
abbrev pub told_point : List Text → Option Point → ℕ → List Told → Option Point
told_point names point at [] = point
told_point names point at (r ∷ rs) = told_point names (Some (record { word = spelled r.word; length_before = at + told_length names r })) (at + told_length names r) rs

-- lines none of which ends a record
abbrev pub AreOpen : List Text → Type 0
AreOpen [] = ⊤
AreOpen (l ∷ ls) = (is_last_line l ≡ false) × AreOpen ls

abbrev either : Bool → Option Point → Option Point → Option Point
either t a b = elim t [ true ↦ a | false ↦ b ]

either-same : (t : Bool) (a b c : Option Point) → a ≡ c → b ≡ c → either t a b ≡ c
either-same true a b c e f = e
either-same false a b c e f = f

-- they give no other point
past-open : (ls : List Text) (word : Option Text) (point : Option Point) (at : ℕ) → AreOpen ls → point_in word point at ls ≡ point
past-open [] word point at h = refl
past-open (l ∷ ls) word point at h = let e = h.0 in rw (e, point_in) (either-same (is_first_line l) (point_in (Some (drop 4 l)) point (at + suc (length l)) ls) (point_in word point (at + suc (length l)) ls) point (past-open ls (Some (drop 4 l)) point (at + suc (length l)) h.1) (past-open ls word point (at + suc (length l)) h.1))

-- whole records, and then lines none of which ends a record
pub past-records : (names : List Text) (rs : List Told) (tail : List Text) (word : Option Text) (point : Option Point) (at : ℕ) → AreOpen tail → point_in word point at (flat_map (told_lines names) rs ++ tail) ≡ told_point names point at rs
past-records names [] tail word point at h = past-open tail word point at h
past-records names (r ∷ rs) tail word point at h =
    let n : ℕ = at + suc (length (codes "run " ++ spelled r.word)) + bytes_of (inner_lines r.state names) + suc (length (last_line r.ending)) in
    let m : n ≡ at + told_length names r = omega arith in
    let one = ap (point_in word point at) (append_assoc (told_lines names r) (flat_map (told_lines names) rs) tail) in
    let two = past-record r.word r.state r.ending names word point at (flat_map (told_lines names) rs ++ tail) in
    let three = past-records names rs tail (Some (spelled r.word)) (Some (record { word = spelled r.word; length_before = n })) n h in
    one ∙ two ∙ three ∙ ap (λ (k : ℕ). told_point names (Some (record { word = spelled r.word; length_before = k })) k rs) m

-- the lines of a prefix of some lines are the first of these lines
pub part-lines : (part rest : Text) (ls : List Text) (q r : Text) → IsOneLine rest → AreLines ls → rest ++ 10 ∷ flat_map line ls ≡ q ++ r → (j : ℕ) × (ended_lines part q ≡ take j ((part ++ rest) ∷ ls)) × (r ≢ [] → j ≤ length ls)
part-lines part rest ls [] r h k e = (0, refl, λ ne. omega arith)
part-lines part [] [] (b ∷ []) r h k e =
    let f : 10 ≡ b = cc in
    (1, subst (λ (x : ℕ). ended_lines part (x ∷ []) ≡ (part ++ []) ∷ []) f (ap (λ (x : Text). x ∷ []) (sym (append-nil part))), λ ne. absurd (ne (cc)))
part-lines part [] [] (b ∷ c ∷ q) r h k e = absurd (cc)
part-lines part [] (l ∷ ls) (b ∷ q) r h k e =
    let f : 10 ≡ b = cc in
    let g : flat_map line (l ∷ ls) ≡ q ++ r = cc in
    let i : l ++ 10 ∷ flat_map line ls ≡ q ++ r = sym (append_assoc l (10 ∷ []) (flat_map line ls)) ∙ g in
    let ih = part-lines [] l ls q r k.0 k.1 i in
    (suc ih.0, subst (λ (x : ℕ). ended_lines part (x ∷ q) ≡ (part ++ []) ∷ take ih.0 (l ∷ ls)) f (ap (λ (x : List Text). part ∷ x) ih.1 ∙ ap (λ (x : Text). x ∷ take ih.0 (l ∷ ls)) (sym (append-nil part))), λ ne. let n = ih.2 ne in omega arith)
part-lines part (x ∷ rest) ls (b ∷ q) r h k e =
    let f : x ≡ b = cc in
    let g : rest ++ 10 ∷ flat_map line ls ≡ q ++ r = cc in
    let ih = part-lines (part ++ x ∷ []) rest ls q r h.1 k g in
    let a = append_assoc part (x ∷ []) rest in
    let n = h.0 in
    (ih.0, subst (λ (y : ℕ). ended_lines part (y ∷ q) ≡ take ih.0 ((part ++ x ∷ rest) ∷ ls)) f (rw (n, ended_lines) (ih.1 ∙ ap (λ (y : Text). take ih.0 (y ∷ ls)) a)), ih.2)

open-inner : (ms : List Text) (l : Text) (j : ℕ) → AreInner ms → j ≤ length ms → AreOpen (take j (ms ++ l ∷ []))
open-inner ms l zero h k = tt
open-inner [] l (suc j) h k = absurd (omega arith)
open-inner (m ∷ ms) l (suc j) h k = (h.0.1, open-inner ms l j h.1 (omega arith))

open-record : (w : OutcomeWord) (s : State) (e : Ending) (names : List Text) (j : ℕ) → j ≤ suc (length (inner_lines s names)) → AreOpen (take j (record_lines w s e names))
open-record w s e names zero k = tt
open-record w s e names (suc j) k = (refl, open-inner (inner_lines s names) (last_line e) j (inner-inner s names) (omega arith))

pub lines-append : (a b : List Text) → AreLines a → AreLines b → AreLines (a ++ b)
lines-append [] b h k = k
lines-append (l ∷ a) b h k = (h.0, lines-append a b h.1 k)

pub told-lines : (names : List Text) (rs : List Told) → AreLines (flat_map (told_lines names) rs)
told-lines names [] = tt
told-lines names (r ∷ rs) = lines-append (told_lines names r) (flat_map (told_lines names) rs) (record-lines r.word r.state r.ending names) (told-lines names rs)

-- whole records and a part of the next one: the point is after the whole ones
pub broken_off : (names : List Text) (rs : List Told) (next : Told) (q r : Text) → flat_map line (told_lines names next) ≡ q ++ r → r ≢ [] → resume_point_of (flat_map line (flat_map (told_lines names) rs) ++ q) ≡ told_point names None 0 rs
broken_off names rs next q r e ne =
    let first : Text = codes "run " ++ spelled next.word in
    let others : List Text = inner_lines next.state names ++ last_line next.ending ∷ [] in
    let all = record-lines next.word next.state next.ending names in
    let cut : first ++ 10 ∷ flat_map line others ≡ q ++ r = sym (append_assoc first (10 ∷ []) (flat_map line others)) ∙ e in
    let part = part-lines [] first others q r all.0 all.1 cut in
    let count = length-append (inner_lines next.state names) (last_line next.ending ∷ []) in
    let few : part.0 ≤ suc (length (inner_lines next.state names)) = let n = part.2 ne in omega arith in
    let unfinished : AreOpen (ended_lines [] q) = subst AreOpen (sym part.1) (open-record next.word next.state next.ending names part.0 few) in
    ap (point_in None None 0) (lines-of (flat_map (told_lines names) rs) q (told-lines names rs)) ∙ past-records names rs (ended_lines [] q) None None 0 unfinished
