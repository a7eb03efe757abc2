-- What the checks tell, one group after the other.
use Rattle.std.proofs.Common.{◌≡◌, ◌≤◌, ◌<◌, ℕ, Bool, true, false, cond, Option, Some, None, List, [], ◌∷◌, length, sym, ◌∙◌, ap, subst, arith}
use Rattle.std.specs.Prelude.{◌^◌, nat_lt, option_map, drop}
use Rattle.std.proofs.lemmas.Grind.{common_steps}
use Rattle.card_layout.specs.declared.files.Application.{Application}
use Rattle.card_layout.specs.declared.files.Fid.{Fid}
use Rattle.card_layout.specs.Application.{IsApplication, place_of_field}
use Rattle.card_layout.specs.Files.{image_size_of}
use Rattle.gated_ring.specs.Ring.{Shape, pointer, PointsInside}
use Rattle.card_image.specs.card_model.Image.{StringShape, HoldsDays, oldest_pointer}
use Rattle.card_image.specs.card_model.Walk.{days_of}
use Rattle.card_image.specs.card_model.Checks.{first_bad, first_failing}
use Rattle.card_image.proofs.card_model.Judging.{holds_passes}
use Rattle.card_days.specs.Held.{Held, Knows}
use Rattle.card_image.specs.Fields.{file, day_string, vehicle_ring, place_ring, end_mark, session_time, card_days}
use Rattle.card_image.specs.Judging.{word_checks, file_check, first_bad_of, pointer_bad, first_bad_file, file_checks}
use Rattle.card_validity.specs.Walks.{IsInMemory}
use Rattle.card_validity.specs.Judged.{first_bad_behind, TellsSizes}
use Rattle.card_validity.proofs.Places.{string_shape, string_inside}

-- the first of four files that fails
abbrev four : Option ℕ → Option ℕ → Option ℕ → Option ℕ → Option (Fid × ℕ)
four a b c d = first_bad_of (file_check 0x0504 a ∷ file_check 0x0505 b ∷ file_check 0x0506 c ∷ file_check 0x0504 d ∷ [])

pub days_fail : (app : Application) (x : List ℕ) (place : ℕ) → first_bad (day_string app) x ≡ Some place → first_bad_behind app x ≡ Some (file 0x0504, place)
days_fail app x place bad =
    ap (λ (a : Option ℕ). four a (pointer_bad (vehicle_ring app) x) (pointer_bad (place_ring app) x) (first_failing (word_checks app.activity (oldest_pointer (day_string app) x) (end_mark app x) (session_time app x) (card_days app x)))) bad

pub points_pass : (r : Shape) (x : List ℕ) → PointsInside r x → pointer_bad r x ≡ None
points_pass r x inside =
    let test : nat_lt (pointer r x) r.count ≡ true = grind (arith, common_steps) in
    ap (λ (t : Bool). cond t None (Some 0)) test

pub points_fail : (r : Shape) (x : List ℕ) → r.count ≤ pointer r x → pointer_bad r x ≡ Some 0
points_fail r x past =
    let test : nat_lt (pointer r x) r.count ≡ false = grind (arith, common_steps) in
    ap (λ (t : Bool). cond t None (Some 0)) test

-- with the sizes that the card tells, what is judged behind them decides
pub behind_decides : (app : Application) (x : List ℕ) → TellsSizes app x → first_bad_file app x ≡ first_bad_behind app x
unfolding first_bad_file
behind_decides app x told = ap (λ (o : Option ℕ). first_bad_of (file_check 0x0501 (option_map place_of_field o) ∷ drop 1 (file_checks app x))) told

module _ (app : Application) (good : IsApplication app) (x : List ℕ) (inside : image_size_of app ≤ length x) (v : Held) (shape : v.shape ≡ day_string app) (k : Knows v x (days_of (day_string app) x)) where
  abbrev words : Option ℕ
  words = first_failing (word_checks app.activity (oldest_pointer (day_string app) x) (end_mark app x) (session_time app x) (card_days app x))

  holds : HoldsDays (day_string app) x (days_of (day_string app) x)
  holds = subst (λ (r : StringShape). HoldsDays r x (days_of (day_string app) x)) shape k.holds

  pub in_memory : length x < 2 ^ 32 → IsInMemory (day_string app) x
  in_memory short = record { shape = string_shape app good; inside = omega (arith, string_inside app, inside); short = short; holds = holds }

  days_pass : first_bad (day_string app) x ≡ None
  days_pass = holds_passes (day_string app) (string_shape app good) x (omega (arith, string_inside app, inside)) (days_of (day_string app) x) holds

  -- the words are judged by what was read
  pub words_told : (mark session : ℕ) (o : Option ℕ) → mark ≡ end_mark app x → session ≡ session_time app x
      → o ≡ first_failing (word_checks v.shape.size (oldest_pointer v.shape x) mark session (days_of v.shape x)) → words ≡ o
  unfolding card_days
  words_told mark session o mark_is session_is told =
      sym (
      told ∙ ap (λ (r : StringShape). first_failing (word_checks r.size (oldest_pointer r x) mark session (days_of r x))) shape
      ∙ ap (λ (m : ℕ). first_failing (word_checks app.activity (oldest_pointer (day_string app) x) m session (days_of (day_string app) x))) mark_is
      ∙ ap (λ (s : ℕ). first_failing (word_checks app.activity (oldest_pointer (day_string app) x) (end_mark app x) s (days_of (day_string app) x))) session_is
      )

  pub vehicles_fail : app.vehicles ≤ pointer (vehicle_ring app) x → first_bad_behind app x ≡ Some (file 0x0505, 0)
  vehicles_fail past =
      ap (λ (a : Option ℕ). four a (pointer_bad (vehicle_ring app) x) (pointer_bad (place_ring app) x) words) days_pass
      ∙ ap (λ (b : Option ℕ). four None b (pointer_bad (place_ring app) x) words) (points_fail (vehicle_ring app) x past)

  pub places_fail : PointsInside (vehicle_ring app) x → app.places ≤ pointer (place_ring app) x → first_bad_behind app x ≡ Some (file 0x0506, 0)
  places_fail vehicles past =
      ap (λ (a : Option ℕ). four a (pointer_bad (vehicle_ring app) x) (pointer_bad (place_ring app) x) words) days_pass
      ∙ ap (λ (b : Option ℕ). four None b (pointer_bad (place_ring app) x) words) (points_pass (vehicle_ring app) x vehicles)
      ∙ ap (λ (c : Option ℕ). four None None c words) (points_fail (place_ring app) x past)

  pub words_decide : PointsInside (vehicle_ring app) x → PointsInside (place_ring app) x → (o : Option ℕ) → words ≡ o → first_bad_behind app x ≡ four None None None o
  words_decide vehicles places o is =
      ap (λ (a : Option ℕ). four a (pointer_bad (vehicle_ring app) x) (pointer_bad (place_ring app) x) words) days_pass
      ∙ ap (λ (b : Option ℕ). four None b (pointer_bad (place_ring app) x) words) (points_pass (vehicle_ring app) x vehicles)
      ∙ ap (λ (c : Option ℕ). four None None c words) (points_pass (place_ring app) x places)
      ∙ ap (four None None None) is
