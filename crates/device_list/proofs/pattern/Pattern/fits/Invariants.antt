use Rattle.std.proofs.Common.{◌≡◌, drop, map}
use Rattle.commands.specs.TextsShown.{texts}
use Rattle.device_list.specs.CallLines.{fits, fits_words}
use Rattle.device_list.specs.DevicesShown.{word_shown, pattern_shown}
use Rattle.device_list.proofs.pattern.Pattern.fits.Given as goal

-- what is left of the pattern decides over the words that are left
abbrev pub invariant-loop-first : goal.invariant-loop-first
invariant-loop-first l = fits (pattern_shown l.self) (texts l.words)
    ≡ fits_words (map word_shown (drop l.first-index l.self.words.items)) l.self.more (texts l.left)
