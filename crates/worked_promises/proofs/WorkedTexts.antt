-- Worked rows of the text of a trace by its lines, and of which commands fix the sizes of a card.
use Rattle.std.proofs.Common.{◌≡◌, ℕ, ◌+◌, ◌*◌, Bool, true, false, Option, Some, None, List, [], ◌∷◌, map, refl}
use Rattle.std.specs.Prelude.{codes, Result, Ok, Err}
use Rattle.std.specs.Fmt.{digits}
use Rattle.activity_codec.specs.declared.values.Slot.TheVariants.{Driver, CoDriver}
use Rattle.activity_codec.specs.declared.values.Pick.TheVariants as pick
use Rattle.trace_model.specs.declared.Card.TheVariants.{B}
use Rattle.trace_model.specs.declared.Action.TheVariants.{Select, Insert, Withdraw, Tear, Place, Manual}
use Rattle.trace_model.specs.declared.Item.{Item}
use Rattle.trace_model.specs.declared.Item.TheVariants.{Run, Off, Act}
use Rattle.trace_text.specs.Line.{start_fields}
use Rattle.trace_text.specs.Trace.{line_of, items_of}
use Rattle.trace_text.specs.Judged.{items_before, most_bytes}
use Rattle.card_layout.specs.declared.command.CardState.{CardState}
use Rattle.card_layout.specs.declared.command.ElementaryFile.{ElementaryFile}
use Rattle.card_layout.specs.declared.command.Command.TheVariants.{Application, Select as SelectFile, Read, Update}
use Rattle.card_layout.specs.Application.{first_bad_field}
use Rattle.card_layout.specs.Outcomes.{just_issued, nothing, gives, puts, effect_needs_sizes, needs_sizes, result_needs_sizes, bytes_need_sizes}

-- ---- lines

first_line : start_fields 86400 ≡ codes "start" ∷ codes "86400" ∷ []
unfolding digits
first_line = refl

line_of_an_insertion : line_of (3, Act (Insert CoDriver B)) ≡ (3, codes "insert" ∷ codes "codriver" ∷ codes "b" ∷ [])
line_of_an_insertion = refl

line_of_an_entry_by_hand : line_of (4, Act (Manual Driver pick.Work 470)) ≡ (4, codes "manual" ∷ codes "driver" ∷ codes "work" ∷ codes "470" ∷ [])
unfolding digits
line_of_an_entry_by_hand = refl

items_alone : items_of ((3, Off 9) ∷ (5, Run 60 72) ∷ []) ≡ Off 9 ∷ Run 60 72 ∷ []
items_alone = refl

-- an action at the end of the text gets a second; where lines follow, it waits for theirs
abbrev written : List (ℕ × Item)
written = (2, Run 60 0) ∷ (3, Act (Tear Driver)) ∷ []

at_the_end : items_before [] written ≡ (2, Run 60 0) ∷ (3, Act (Tear Driver)) ∷ (3, Run 1 0) ∷ []
at_the_end = refl

before_others : items_before ((4, codes "run" ∷ []) ∷ []) written ≡ written
before_others = refl

-- 16 MiB
bytes_at_most : most_bytes ≡ 16 * (1024 * 1024)
bytes_at_most = refl

-- ---- commands on a card of which no command has needed the sizes yet

-- with Application_Identification selected, and with IC
abbrev selected : (fid base len : ℕ) → ElementaryFile
selected fid base len = record { fid = record { 0 = fid }; range = record { base = base; len = len }; updated = false }

abbrev with_selected : ElementaryFile → CardState
with_selected file = record just_issued { selected = Some file }

effects : map effect_needs_sizes (nothing ∷ gives (selected 0x0501 33 10) 0 10 ∷ gives (selected 0x0005 25 8) 0 8 ∷ puts 43 (1 ∷ []) ∷ []) ≡ false ∷ true ∷ false ∷ false ∷ []
effects = refl

-- a selection of Driver_Activity_Data needs them, one of ICC, of Application_Identification or of a directory does not
selections : map (λ n. needs_sizes just_issued (SelectFile (record { 0 = n }))) (0x0504 ∷ 0x0002 ∷ 0x0501 ∷ 0x3F00 ∷ 0x0500 ∷ []) ≡ true ∷ false ∷ false ∷ false ∷ false ∷ []
selections = refl

-- a read needs them of Application_Identification, as far as there is some of it to be read; else not
reads : needs_sizes (with_selected (selected 0x0501 33 10)) (Read 0 10) ∷ needs_sizes (with_selected (selected 0x0501 33 10)) (Read 11 1)
    ∷ needs_sizes (with_selected (selected 0x0005 25 8)) (Read 0 8) ∷ needs_sizes just_issued (Read 0 10) ∷ needs_sizes just_issued Application ∷ []
    ≡ true ∷ false ∷ false ∷ false ∷ false ∷ []
reads = refl

results : result_needs_sizes just_issued (Ok (SelectFile (record { 0 = 0x0504 }))) ∷ result_needs_sizes just_issued (Err 0x6700) ∷ [] ≡ true ∷ false ∷ []
results = refl

-- by their bytes: SELECT FILE of Driver_Activity_Data by its identifier, of DF Tachograph by its name, and a class that is none
by_bytes : map (bytes_need_sizes just_issued) ((0 ∷ 0xA4 ∷ 2 ∷ 0x0C ∷ 2 ∷ 5 ∷ 4 ∷ []) ∷ (0 ∷ 0xA4 ∷ 4 ∷ 0x0C ∷ 6 ∷ 0xFF ∷ 0x54 ∷ 0x41 ∷ 0x43 ∷ 0x48 ∷ 0x4F ∷ []) ∷ (1 ∷ 0xA4 ∷ 2 ∷ 0x0C ∷ 2 ∷ 5 ∷ 4 ∷ []) ∷ [])
    ≡ true ∷ false ∷ false ∷ []
by_bytes = refl
