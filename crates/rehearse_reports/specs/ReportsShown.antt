-- What the program's keys and its reports say.
use Rattle.std.specs.Prelude.{Bool, List, ◌++◌, map}
use Rattle.indexmap.specs.IndexSet.{IndexSet}
use Rattle.keyed_hash.specs.declared.keyed.KeyedHash.{KeyedHash}
use Rattle.std.specs.List.{list_any}
use Rattle.text.specs.TextsShown.{bytes_of_words}
use Rattle.rehearse_reads.specs.Keys as keys
use Rattle.rehearse_reads.specs.Keys.{Access, Writes, all_read, same_key}
use Rattle.rehearse_reports.specs.declared.key.Key.{Key}
use Rattle.rehearse_reports.specs.declared.key.Key.TheVariants.{Environment, Local, AnswerTo, Succeeded, Status}
use Rattle.rehearse_reports.specs.declared.reported.Needed.{Needed}
use Rattle.rehearse_reports.specs.declared.reported.Reported.{Reported}

abbrev pub key_shown : Key → keys.Key
key_shown (Environment name) = keys.Environment name.items
key_shown (Local name) = keys.Local name.items
key_shown (AnswerTo call) = keys.AnswerTo (bytes_of_words call.items)
key_shown (Succeeded start) = keys.Succeeded (bytes_of_words start.items)
key_shown Status = keys.Status

abbrev pub keys_shown : List Key → List keys.Key
keys_shown = map key_shown

-- whether a key is in a set of keys
abbrev pub is_in : Key → IndexSet Key KeyedHash → Bool
is_in key ks = list_any (same_key (key_shown key)) (keys_shown ks.keys)

-- first the keys that were read before they were written, and then those that were written
abbrev pub accesses_shown : Reported → List Access
accesses_shown r = all_read (keys_shown r.read.keys) ++ map Writes (keys_shown r.written.keys)

-- the keys that have to be known
abbrev pub needed_shown : Needed → List keys.Key
needed_shown needed = keys_shown needed.keys.keys
