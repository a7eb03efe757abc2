use Rattle.std.proofs.Common.{◌≡◌, ◌∙◌, ℕ, ◌-◌, true, false, List, length, ap, sym, arith}
use Rattle.std.specs.Prelude.{is_some, Option, None}
use Rattle.card_days.specs.declared.head.DayHead.{DayHead}
use Rattle.card_days.specs.Heads.{heads_of}
use Rattle.card_model.specs.Checks.{first_bad}
use Rattle.card_model.specs.Image.{StringShape}
use Rattle.card_model.specs.Walk.{days_of}
use Rattle.card_image.specs.CardFile.{string_alone}
use Rattle.tach_media.specs.Medium.{bytes_at}
use Rattle.file_view.specs.Reading.{days_part}
use Rattle.file_view.proofs.card.string_heads.Goals as goal

-- the heads by the shape and the bytes
abbrev heads_by : StringShape → List ℕ → List DayHead
heads_by r x = heads_of r x (days_of r x)

pub returns : goal.returns
returns c =
    let size : length c.part-file.result.now - 4 ≡ c.args.parts.app.activity = omega (arith, c.part-file.ensures.len, c.days_len.ensures.value) in
    let r_is : c.in-Some.string.shape ≡ string_alone c.args.parts.app = c.in-Some.ensures.some.0 ∙ ap (λ (n : ℕ). let s : StringShape = record { base = 0; size = n } in s) size in
    let x_is : c.part-file.result.now ≡ days_part c.args.b.now c.args.parts = c.part-file.ensures.bytes ∙ ap (λ (n : ℕ). bytes_at c.args.b.now c.args.parts.days n) c.days_len.ensures.value in
    c.in_ok-all.ensures
    ∙ ap (λ (r : StringShape). heads_by r c.part-file.result.now) r_is
    ∙ ap (λ (x : List ℕ). heads_by (string_alone c.args.parts.app) x) x_is

-- a string that was judged good is loaded
never : (r own : StringShape) (x own_x : List ℕ) → is_some (first_bad r x) ≡ true → r ≡ own → x ≡ own_x → first_bad own own_x ≡ None → ⊥
never r own x own_x bad shape bytes good =
    let told : is_some (first_bad r x) ≡ false =
    ap (λ (s : StringShape). is_some (first_bad s x)) shape ∙ ap (λ (l : List ℕ). is_some (first_bad own l)) bytes ∙ ap (λ (o : Option ℕ). is_some o) good in
    let no : true ≡ false = sym bad ∙ told in
    cc

pub returns-in_default : goal.returns-in_default
returns-in_default c =
    let size : length c.part-file.result.now - 4 ≡ c.args.parts.app.activity = omega (arith, c.part-file.ensures.len, c.days_len.ensures.value) in
    let x_is : c.part-file.result.now ≡ days_part c.args.b.now c.args.parts = c.part-file.ensures.bytes ∙ ap (λ (n : ℕ). bytes_at c.args.b.now c.args.parts.days n) c.days_len.ensures.value in
    absurd
    (never (record { base = 0; size = length c.part-file.result.now - 4 }) (string_alone c.args.parts.app) c.part-file.result.now (days_part c.args.b.now c.args.parts) c.in_default.ensures.none
    (ap (λ (n : ℕ). let s : StringShape = record { base = 0; size = n } in s) size) x_is c.requires.parts.file.string)
