-- What the forms `help` and `--version` print, and how they end (profile).
use Rattle.std.specs.Prelude.{◌≡◌, ℕ, List, [], ◌∷◌, ◌++◌, codes}
use Rattle.std.specs.Io.KnownBytes.{Appends}
use Rattle.tach_media.specs.Medium.{Rose}
use Rattle.tach_media.specs.Streams.{AppendsFront}
use Rattle.tacho.specs.declared.end.Fault.{Fault}
use Rattle.tacho.specs.declared.end.Fault.TheVariants.{Done, WriteFault}
use Rattle.tacho.specs.Outside.{SinkTold}

-- lines, each with LF behind it
abbrev pub as_lines : List (List ℕ) → List ℕ
as_lines [] = []
as_lines (line ∷ lines) = line ++ 10 ∷ as_lines lines

-- the forms, a line each, how a file is named, and one example
unfoldable pub help_text : List ℕ
help_text = as_lines (
    codes "tacho minutes < TRACE                    print the minutes of a trace, with no card" ∷
    codes "tacho minutes 2009 < TRACE               print them by the rule as amended in 2009" ∷
    codes "tacho record < TRACE                     record a trace on unit.img, card-a.img and card-b.img" ∷
    codes "tacho serve                              answer a downloader's frames" ∷
    codes "tacho serve --hex                        answer frames that are lines of hexadecimal digits" ∷
    codes "tacho serve packets                      answer a downloader's packets, which may be lost and repeated" ∷
    codes "tacho serve card a|b                     let a card answer the commands that come as packets" ∷
    codes "tacho download > FILE                    write the unit's file" ∷
    codes "tacho download noisy X > FILE            write it over a link that loses and repeats, drawn from X" ∷
    codes "tacho download packets                   ask a unit by packets, and write its file to unit.ddd" ∷
    codes "tacho card a|b > FILE                    write a card's file" ∷
    codes "tacho view < FILE                        print the minutes of a unit's file, or a card's entries" ∷
    codes "tacho view last N < FILE                 print the minutes of its last N days (1 to 366)" ∷
    codes "tacho view manual < FILE                 print the entries by hand of a card's file" ∷
    codes "tacho totals < FILE                      print the hours of each day of a unit's or a card's file" ∷
    codes "tacho totals last N < FILE               print those of its last N days" ∷
    codes "tacho chart < FILE > PICTURE             draw its days as one SVG" ∷
    codes "tacho chart last N < FILE > PICTURE      draw its last N days" ∷
    codes "tacho speeds < FILE                      print the speed of each minute of a unit's file" ∷
    codes "tacho speeds last N < FILE               print that of its last N minutes (1 to 1440)" ∷
    codes "tacho show < FILE                        print all that stands in a unit's or a card's file, as JSON" ∷
    codes "tacho show last N < FILE                 print it with only its last N days" ∷
    codes "tacho match < FILES                      say whether a card's file, put after a unit's, stands in it" ∷
    codes "tacho match all < FILES                  print each difference, and the counts" ∷
    codes "tacho format unit N PLATE VIN LIMIT      make a new unit in unit.img: what it held goes to unit.img.before" ∷
    codes "tacho format a|b N NUMBER SURNAME FIRST  make a new card in card-a.img or card-b.img: what it held goes the same way" ∷
    codes "tacho upgrade                            give the unit the amended rule of minutes, for good" ∷
    codes "tacho state                              print what the unit and the cards tell of themselves" ∷
    codes "tacho demo X                             record forty days drawn from X: what unit and card a held goes the same way" ∷
    codes "tacho help, tacho --help                 print these lines" ∷
    codes "tacho --version                          print the version, and the logic of the toolchain" ∷
    codes "A name of a file with . or / in it may stand in place of < and the file: tacho view unit.ddd" ∷
    codes "Example: (echo start 1267401600; echo run 3600 50) | tacho minutes" ∷ [])

-- the version, and the logic of the toolchain which proves it
unfoldable pub version_text : List ℕ
version_text = as_lines (codes "tacho 2.0.0" ∷ codes "logic dac8208d650f15bf" ∷ [])

-- all is done, or the sink failed
abbrev pub IsTextEnd : Fault → Type 0
IsTextEnd Done = Unit {0}
IsTextEnd WriteFault = Unit {0}
IsTextEnd _ = ⊥

-- How a form ends that prints a text which is always the same. It takes no memory, so none ends by want of it.
pub record EndsText (text : List ℕ) (old new : SinkTold) (fault : Fault) : Type 0 where
  pub ends : IsTextEnd fault
  pub printed : fault ≡ Done → Appends old.held new.held text
  -- at a write fault a front of it was printed
  pub front : fault ≡ WriteFault → AppendsFront old.held new.held text
  pub write_fault : fault ≡ WriteFault → Rose old.faults new.faults
