-- The walk by `after` gives the days in order, that by `before` gives them reversed.
use Rattle.std.proofs.Common.{◌≡◌, ℕ, ◌+◌, ◌≤◌, Option, List, [], ◌∷◌, ◌++◌, length, refl, sym, ◌∙◌, subst, arith, append_assoc}
use Rattle.std.specs.Prelude.{slice_get}
use Rattle.card_model.specs.Days.{Day, len_of, total}
use Rattle.card_model.specs.Image.{StringShape, IsStringShape, oldest_pointer, spot, HoldsDays, IsAt}
use Rattle.card_model.proofs.Lists.{total-append}
use Rattle.card_model.proofs.Reading.{fills}
use Rattle.card_days.specs.declared.head.DayHead.{DayHead}
use Rattle.card_days.specs.Heads.{heads_from, heads_of, IsAfter, IsWalk}
use Rattle.card_days.proofs.HeadWalks.{total_even}
use Rattle.card_days.proofs.Rounds.{spot_is}

module _ (r : StringShape) (shape : IsStringShape r) (x : List ℕ) (inside : r.base + (4 + r.size) ≤ length x) where
  abbrev pub spot_of : List Day → ℕ
  spot_of older = spot r.size (oldest_pointer r x) (total older)

  -- a day of the list, at its place
  abbrev pub day_here : (older : List Day) (d : Day) (later : List Day) → HoldsDays r x (older ++ d ∷ later) → IsAt r x (spot_of older) d
  day_here older d later h =
      let s = spot_is r.size (oldest_pointer r x) (total older) shape.even h.oldest (total_even older) (omega (arith, fills r shape x inside (older ++ d ∷ later) h, total-append older (d ∷ later))) in
      record { older = older; later = later; holds = h; pointer = s.1; place = s.0 }

  forward_from : (older later : List Day) → HoldsDays r x (older ++ later) → IsWalk (IsAfter r x) (slice_get (heads_from r x (total older) later) 0) (heads_from r x (total older) later)
  forward_from older [] h = refl
  forward_from older (d ∷ ds) h = (
    refl,
    λ o next.
        let more : total (older ++ d ∷ []) ≡ total older + len_of d = total-append older (d ∷ []) ∙ omega arith in
        let is : o ≡ slice_get (heads_from r x (total older + len_of d) ds) 0 = next d (day_here older d ds h) in
        let rest = forward_from (older ++ d ∷ []) ds (subst (λ (l : List Day). HoldsDays r x l) (sym (append_assoc older (d ∷ []) ds)) h) in
        subst (λ (a : Option DayHead). IsWalk (IsAfter r x) a (heads_from r x (total older + len_of d) ds)) (sym is)
        (subst (λ (k : ℕ). IsWalk (IsAfter r x) (slice_get (heads_from r x k ds) 0) (heads_from r x k ds)) more rest),
  )

  -- the walk from `first` on by `after`
  pub walk_after : (days : List Day) → HoldsDays r x days → IsWalk (IsAfter r x) (slice_get (heads_of r x days) 0) (heads_of r x days)
  walk_after days h = forward_from [] days h
