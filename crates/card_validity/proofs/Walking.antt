-- A walk over days in memory, from one day to the next.
use Rattle.std.proofs.Common.{◌≡◌, ℕ, ◌+◌, ◌*◌, ◌<◌, ◌≤◌, Option, Some, None, List, [], ◌∷◌, ◌++◌, false, refl, sym, ◌∙◌, ap, subst, arith, append_assoc}
use Rattle.std.specs.Prelude.{slice_get}
use Rattle.std.proofs.lemmas.List.{append-nil}
use Rattle.card_image.specs.card_model.Days.{Day, len_of, total}
use Rattle.card_image.specs.card_model.Image.{StringShape, oldest_pointer, spot, HoldsDays, IsAt}
use Rattle.card_image.specs.card_model.Walk.{days_of}
use Rattle.card_image.proofs.card_model.Lists.{total-append}
use Rattle.card_image.proofs.card_model.Reading.{fills}
use Rattle.card_days.specs.declared.head.DayHead.{DayHead}
use Rattle.card_days.specs.Heads.{day_head, heads_from, IsAfter}
use Rattle.card_days.proofs.WalkOrder.{day_here}
use Rattle.card_validity.specs.declared.walk.Met.{Met}
use Rattle.card_validity.specs.declared.walk.Walked.{Walked}
use Rattle.card_validity.specs.Walks.{IsInMemory, IsMet}
use Rattle.card_validity.specs.Words.{HasMet}

-- the next day is there, and was met
pub record IsNextMet (r : StringShape) (x : List ℕ) (older later : List Day) (m : Met) : Type 0 where
  pub day : Day
  pub rest : List Day
  pub later_is : later ≡ day ∷ rest
  pub head : m.head ≡ day_head (spot r.size (oldest_pointer r x) (total older)) day
  pub holds : HoldsDays r x (older ++ day ∷ rest)
  pub met : IsMet r x older day m

module _ (r : StringShape) (x : List ℕ) (known : IsInMemory r x) where
  here_met : (older : List Day) (d : Day) (ds : List Day) (m : Met) → HoldsDays r x (older ++ d ∷ ds) → m.so_far ≡ total older → m.head ≡ day_head (spot r.size (oldest_pointer r x) (total older)) d → IsMet r x older d m
  here_met older d ds m h so_far is =
      let at : IsAt r x (spot r.size (oldest_pointer r x) (total older)) d = day_here r known.shape x known.inside older d ds h in
      let place : m.head.place ≡ spot r.size (oldest_pointer r x) (total older) = ap (λ (h : DayHead). h.place) is in
      let below : spot r.size (oldest_pointer r x) (total older) < r.size = at.pointer.below in
      record {
        here = subst (λ (p : ℕ). IsAt r x p d) (sym place) at;
        date = ap (λ (h : DayHead). h.date.0) is;
        words = ap (λ (h : DayHead). h.words) is;
        so_far = so_far;
        place = omega (arith, place, below);
        near = omega (arith, so_far, fills r known.shape x known.inside (older ++ d ∷ ds) h, total-append older (d ∷ ds), known.shape.high);
      }

  pub next_met : (older later : List Day) (m : Met) (o : Option DayHead) → days_of r x ≡ older ++ later → m.so_far ≡ total older → o ≡ slice_get (heads_from r x (total older) later) 0 → o ≡ Some m.head → IsNextMet r x older later m
  next_met older [] m o are so_far next is = absurd (let none : None ≡ Some m.head = sym next ∙ is in cc)
  next_met older (d ∷ ds) m o are so_far next is =
      let both : Some (day_head (spot r.size (oldest_pointer r x) (total older)) d) ≡ Some m.head = sym next ∙ is in
      let head : m.head ≡ day_head (spot r.size (oldest_pointer r x) (total older)) d = cc in
      let h : HoldsDays r x (older ++ d ∷ ds) = subst (λ (l : List Day). HoldsDays r x l) are known.holds in
      record { day = d; rest = ds; later_is = refl; head = head; holds = h; met = here_met older d ds m h so_far head }

  module _ (older later : List Day) (m : Met) (n : IsNextMet r x older later m) where
    pub grown : total (older ++ n.day ∷ []) ≡ total older + len_of n.day
    grown = total-append older (n.day ∷ []) ∙ omega arith

    pub next_are : days_of r x ≡ older ++ later → days_of r x ≡ (older ++ n.day ∷ []) ++ n.rest
    next_are are = are ∙ ap (λ (l : List Day). older ++ l) n.later_is ∙ sym (append_assoc older (n.day ∷ []) n.rest)

    pub next_far : m.so_far ≡ total older → m.so_far + (12 + 2 * m.head.words) ≡ total (older ++ n.day ∷ [])
    next_far so_far = omega (arith, grown, so_far, n.met.words)

    -- the days together are no more than the string
    pub next_small : m.so_far ≡ total older → m.so_far + (12 + 2 * m.head.words) ≤ 13776
    next_small so_far =
        omega (arith, so_far, n.met.words, fills r known.shape x known.inside (older ++ n.day ∷ n.rest) n.holds, total-append older (n.day ∷ n.rest), known.shape.high)

    pub next_head : (o : Option DayHead) → IsAfter r x m.head o → o ≡ slice_get (heads_from r x (total (older ++ n.day ∷ [])) n.rest) 0
    next_head o after =
        let at : o ≡ slice_get (heads_from r x (total older + len_of n.day) n.rest) 0 = subst (λ (h : DayHead). IsAfter r x h o) n.head after n.day (day_here r known.shape x known.inside older n.day n.rest n.holds) in
        at ∙ ap (λ (k : ℕ). slice_get (heads_from r x k n.rest) 0) (sym grown)

  -- behind the last day there is none
  pub none_left : (older later : List Day) (o : Option DayHead) → days_of r x ≡ older ++ later → o ≡ slice_get (heads_from r x (total older) later) 0 → o ≡ None → days_of r x ≡ older
  none_left older [] o are next is = are ∙ append-nil older
  none_left older (d ∷ ds) o are next is = absurd (let some : Some (day_head (spot r.size (oldest_pointer r x) (total older)) d) ≡ None = sym next ∙ is in cc)

  -- so all days were met
  pub all_met : (mark : ℕ) (older later : List Day) (o : Option DayHead) (w : Walked) → days_of r x ≡ older ++ later → o ≡ slice_get (heads_from r x (total older) later) 0 → HasMet r x mark older w → o ≡ None → HasMet r x mark (days_of r x) w
  all_met mark older later o w are next met is = subst (λ (ds : List Day). HasMet r x mark ds w) (sym (none_left older later o are next is)) met

-- before the first day nothing was met
pub none_met : (r : StringShape) (x : List ℕ) (mark : ℕ) → HasMet r x mark [] (record { behind = record { unclosed = false; first = None; bad = None }; past = false; cut = None; newest = None })
none_met r x mark = record { behind = record { unclosed = refl; behind = (refl, refl) }; past = refl; cut = refl; newest = refl }
