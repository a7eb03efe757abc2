-- Three runs of a recorder that keeps one minute for each line of its input: one tells it behind the keep, one before
-- it, and one only behind the next read.
use Rattle.std.proofs.Common.{◌≡◌, ◌∙◌, ℕ, Option, Some, List, [], ◌∷◌, ◌++◌, length, refl, ap, arith}
use Rattle.std.specs.Prelude.{codes, map}
use Rattle.log_model.specs.run_model.declared.Device.TheVariants.{Unit as Recorder}
use Rattle.log_model.specs.declared.lines.Mark.{Mark}
use Rattle.live_telling.specs.Telling.{Line, Telling, AreTold, mark_line}
use Rattle.live_telling.specs.InTime.{IsOut, text_of}

-- the minute that the unit had behind its fifth write, and its line
abbrev kept : Mark
kept = record { device = Recorder; minute = 21114360; clock = 5 }

abbrev text : Mark → List ℕ
text m = codes "unit 2010-02-22 06:00\n"

abbrev line : Line
line = mark_line text kept

-- ---- not too early

-- TOLD BEHIND THE KEEP, by one write, as the unit had begun five: it holds
abbrev behind : Telling
behind = record { took = text kept; clocks = record { unit = 5; card_a = 2; card_b = 0 } }

told-behind : AreTold (line ∷ []) (behind ∷ [])
told-behind = (behind ∷ [], [], refl, record { text = refl; late = (record { unit = omega arith; card_a = omega arith; card_b = omega arith }, tt) }, refl)

-- TOLD BEFORE THE KEEP, by one write, as the unit had begun three: it does not
abbrev before : Telling
before = record { took = text kept; clocks = record { unit = 3; card_a = 2; card_b = 0 } }

not_told-before : AreTold (line ∷ []) (before ∷ []) → ⊥
not_told-before ([], rest, parts, told, none) = let t = told.text in cc
not_told-before (first ∷ own, rest, parts, told, none) =
    let same : before ≡ first = cc in
    let clock : 3 ≡ first.clocks.unit = ap (λ (t : Telling). t.clocks.unit) same in
    let late = told.late.0.unit in
    absurd (omega (arith, late, clock))

-- BEGUN BEFORE THE KEEP, by two writes, of which the first took the device's name alone: nor so
abbrev device : Telling
device = record { took = codes "unit "; clocks = record { unit = 3; card_a = 2; card_b = 0 } }

abbrev minute : Telling
minute = record { took = codes "2010-02-22 06:00\n"; clocks = record { unit = 5; card_a = 2; card_b = 0 } }

not_begun-before : AreTold (line ∷ []) (device ∷ minute ∷ []) → ⊥
not_begun-before ([], rest, parts, told, none) = let t = told.text in cc
not_begun-before (first ∷ own, rest, parts, told, none) =
    let same : device ≡ first = cc in
    let clock : 3 ≡ first.clocks.unit = ap (λ (t : Telling). t.clocks.unit) same in
    let late = told.late.0.unit in
    absurd (omega (arith, late, clock))

-- ---- in time

-- a run of so many lines keeps so many minutes
abbrev Records : List (List ℕ) → List Mark → Type 0
Records lines marks = length marks ≡ length lines

-- and tells each by its line
abbrev Tells : List Mark → List Line → Type 0
Tells marks lines = lines ≡ map (mark_line text) marks

-- the text that came before the read
abbrev came : List ℕ
came = codes "run 60 0\nrun"

-- IN TIME: its line is out before the next read. So it is whether it was told behind the keep or before it: the bytes
-- that are out are the same, and that is why the clocks are told too.
in-time : IsOut Records Tells came (Some []) (Some (text kept))
in-time = (kept ∷ [], line ∷ [], refl, refl, refl)

-- HELD BACK to the next read: it is not
not-held-back : IsOut Records Tells came (Some []) (Some []) → ⊥
not-held-back ([], lines, recorded, told, out) = cc
not-held-back (mark ∷ marks, lines, recorded, told, out) =
    let none : [] ≡ text_of (map (mark_line text) (mark ∷ marks)) = out ∙ ap text_of told in
    cc
