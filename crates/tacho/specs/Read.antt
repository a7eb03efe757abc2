-- How a form ends that reads a file and prints what it tells, and what each of them prints.
use Rattle.std.specs.Prelude.{◌≡◌, ◌⊎◌, ◌<◌, ◌≤◌, ℕ, Option, Some, Result, Ok, Err, List, length}
use Rattle.std.specs.Io.KnownBytes.{Appends, IsAtEnd, Keeps}
use Rattle.tach_media.specs.Medium.{Rose}
use Rattle.tach_media.specs.Streams.{AppendsFront}
use Rattle.trace_text.specs.Judged.{most_bytes}
use Rattle.card_match.specs.Files.{IsBadSource}
use Rattle.file_view.specs.UnitFiles.{IsBadUnitFile}
use Rattle.unit_speeds.specs.Text.{PrintsSpeeds}
use Rattle.tacho.specs.declared.forms.Reading.{Reading}
use Rattle.tacho.specs.declared.forms.Reading.TheVariants.{View, ByHand, Match, MatchAll, Totals, Chart, Speeds, Show}
use Rattle.tacho.specs.declared.end.Fault.{Fault}
use Rattle.tacho.specs.declared.end.Fault.TheVariants.{Done, TooLong, ReadFault, WriteFault, Memory, BadFile}
use Rattle.tacho.specs.Outside.{Outside}
use Rattle.tacho.specs.View.{PrintsFile, IsBadFile, PrintsByHand, IsNoCardFile}
use Rattle.tacho.specs.Match.{PrintsMatch, PrintsDifferences}
use Rattle.tacho.specs.Reports.{PrintsTotals, PrintsChart, PrintsJson}

-- what is printed of a source of these bytes
abbrev pub Prints : Reading → (bytes out : List ℕ) → Type 0
Prints (View last) bytes out = PrintsFile last bytes out
Prints ByHand bytes out = PrintsByHand bytes out
Prints Match bytes out = PrintsMatch bytes out
Prints MatchAll bytes out = PrintsDifferences bytes out
Prints (Totals last) bytes out = PrintsTotals last bytes out
Prints (Chart last) bytes out = PrintsChart last bytes out
Prints (Speeds last) bytes out = PrintsSpeeds last bytes out
Prints (Show last) bytes out = PrintsJson last bytes out

-- the bytes are outside the grammar, first at this place
abbrev pub IsBad : Reading → (place : ℕ) → List ℕ → Type 0
IsBad (View last) place bytes = IsBadFile place bytes
IsBad ByHand place bytes = IsNoCardFile place bytes
IsBad Match place bytes = IsBadSource place bytes
IsBad MatchAll place bytes = IsBadSource place bytes
IsBad (Totals last) place bytes = IsBadFile place bytes
IsBad (Chart last) place bytes = IsBadFile place bytes
IsBad (Speeds last) place bytes = IsBadUnitFile place bytes
IsBad (Show last) place bytes = IsBadFile place bytes

-- the file is bad at a place of which this holds, or memory ran out
abbrev pub IsUnshown : (ℕ → Type 0) → Fault → Type 0
IsUnshown IsPlace (BadFile place) = IsPlace place
IsUnshown IsPlace Memory = Unit {0}
IsUnshown IsPlace _ = ⊥

-- what is printed is made whole first: of each but `show`
abbrev pub IsWhole : Reading → Type 0
IsWhole (Show last) = ⊥
IsWhole reading = Unit {0}

-- of what is made whole first nothing is printed where memory runs out; `show` is printed piece by piece, so of that a
-- front may be
abbrev pub IsUnfinished : Reading → (same front : Type 0) → Type 0
IsUnfinished (Show last) same front = same ⊎ front
IsUnfinished reading same front = same

-- What printing leaves in the sink, by what it answered: all, or a front where the sink failed. The last argument says
-- that the sink is as it was.
abbrev pub EndsPut : Reading → (bytes : List ℕ) → Result (Unit {0}) Fault → (held sunk : Option (List ℕ))
    → (same : Type 0) → Type 0
EndsPut reading bytes (Ok done) held sunk same = (out : List ℕ) × Prints reading bytes out × Appends held sunk out
EndsPut reading bytes (Err (BadFile place)) held sunk same = IsBad reading place bytes × same
EndsPut reading bytes (Err WriteFault) held sunk same = (out : List ℕ) × Prints reading bytes out
    × AppendsFront held sunk out
EndsPut reading bytes (Err Memory) held sunk same = IsUnfinished reading same
    ((out : List ℕ) × Prints reading bytes out × AppendsFront held sunk out)
EndsPut reading bytes (Err _) held sunk same = ⊥

-- a front may have been printed
abbrev pub MayStopWithin : Reading → Fault → Type 0
MayStopWithin reading WriteFault = Unit {0}
MayStopWithin (Show last) Memory = Unit {0}
MayStopWithin reading fault = ⊥

-- how such a form can end
abbrev pub IsReadingEnd : Fault → Type 0
IsReadingEnd Done = Unit {0}
IsReadingEnd (TooLong n) = Unit {0}
IsReadingEnd (BadFile place) = Unit {0}
IsReadingEnd ReadFault = Unit {0}
IsReadingEnd WriteFault = Unit {0}
IsReadingEnd Memory = Unit {0}
IsReadingEnd _ = ⊥

-- How a form ends that reads a file to its end, and prints what it tells: the first two arguments say what is printed
-- of bytes, and at which place bytes are bad.
pub record EndsReading (Prints : (bytes out : List ℕ) → Type 0) (IsBad : (place : ℕ) → List ℕ → Type 0)
    (old new : Outside) (fault : Fault) : Type 0 where
  pub ends : IsReadingEnd fault
  -- Done: the sink gained exactly what is printed of the file, and nothing of the source is left.
  pub printed : (bytes : List ℕ) → old.source.left ≡ Some bytes → fault ≡ Done
      → (out : List ℕ) × Prints bytes out × Appends old.sink.held new.sink.held out
  pub read : fault ≡ Done → IsAtEnd new.source.left
  -- A file outside the grammar is refused with the place where it first fails, and one of too many bytes at line 0.
  pub bad_file : (bytes : List ℕ) (place : ℕ) → old.source.left ≡ Some bytes → fault ≡ BadFile place → IsBad place bytes
  pub too_long : (bytes : List ℕ) (n : ℕ) → old.source.left ≡ Some bytes → fault ≡ TooLong n
      → (n ≡ 0) × (most_bytes < length bytes)
  -- And each file is judged where neither stream fails, unless memory runs out: printed, or refused with its place. No
  -- file is both, by the laws of file_view and card_match.
  pub judges : (bytes : List ℕ) → old.source.left ≡ Some bytes → length bytes ≤ most_bytes
      → (Rose old.source.faults new.source.faults → ⊥) → (Rose old.sink.faults new.sink.faults → ⊥)
      → (fault ≡ Done) ⊎ ((fault ≡ Memory) ⊎ ((place : ℕ) × (fault ≡ BadFile place)))
  pub finds_too_long : (bytes : List ℕ) → old.source.left ≡ Some bytes → most_bytes < length bytes
      → (Rose old.source.faults new.source.faults → ⊥) → (fault ≡ TooLong 0) ⊎ (fault ≡ Memory)
  -- At a write fault a front of what Done appends was appended.
  pub front : (bytes : List ℕ) → old.source.left ≡ Some bytes → fault ≡ WriteFault
      → (out : List ℕ) × Prints bytes out × AppendsFront old.sink.held new.sink.held out
  -- Where memory ran out nothing was, or a front.
  pub short : (bytes : List ℕ) → old.source.left ≡ Some bytes → fault ≡ Memory
      → Keeps old.sink.held new.sink.held
      ⊎ ((out : List ℕ) × Prints bytes out × AppendsFront old.sink.held new.sink.held out)
