-- What the commands `match` and `match all` print of a source.
use Rattle.std.specs.Prelude.{ℕ, List}
use Rattle.card_match.specs.declared.verdict.Matched.{Matched}
use Rattle.card_match.specs.declared.verdict.Differences.{Differences}
use Rattle.card_match.specs.declared.files.SourceFault.{SourceFault}
use Rattle.card_match.specs.declared.files.SourceFault.TheVariants as source
use Rattle.card_match.specs.Files.{MatchesSource, ComparesSource}
use Rattle.card_match.specs.Text.{IsMatchText, IsDifferencesText}
use Rattle.tacho.specs.declared.end.Fault.{Fault}
use Rattle.tacho.specs.declared.end.Fault.TheVariants.{Memory, BadFile}

-- the text of the answer to a match of the unit file and the card file that the bytes are
pub record PrintsMatch (bytes out : List ℕ) : Type 0 where
  pub matched : Matched
  pub matches : MatchesSource bytes matched
  pub text : IsMatchText matched out

-- the text of all that differs there
pub record PrintsDifferences (bytes out : List ℕ) : Type 0 where
  pub all : Differences
  pub compares : ComparesSource bytes all
  pub text : IsDifferencesText all out

-- the end where a source is not compared
abbrev pub match_refusal_of : SourceFault → Fault
match_refusal_of (source.BadFile place) = BadFile place
match_refusal_of source.Memory = Memory
