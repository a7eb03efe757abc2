-- Walks over the days of a string, and the minutes of its words.
use Rattle.std.proofs.Common.{◌≡◌, ◌∙◌, ℕ, zero, suc, ◌+◌, ◌≤◌, ◌<◌, Option, Some, None, List, [], ◌∷◌, ◌++◌, length, get_or, refl, ap, sym, subst, arith, append_assoc, append-nil, length-append}
use Rattle.activity_codec.specs.Words.{word_minute}
use Rattle.card_model.specs.Days.{Day, len_of, total, Ascend, AreWords, IsDay}
use Rattle.card_model.specs.Image.{StringShape, IsStringShape, HoldsDays}
use Rattle.card_model.proofs.Lists.{total-append}
use Rattle.card_model.proofs.Reading.{day_is}
use Rattle.card_days.specs.declared.head.DayHead.{DayHead}
use Rattle.card_days.specs.Heads.{heads_from, heads_of, IsWalk}
use Rattle.card_days.proofs.WalkOrder.{day_here}
use Rattle.file_view.specs.Walking.{IsDayAt}

-- some heads were walked, and the answer goes on with the rest of all
pub record Walked (next : DayHead → Option DayHead → Type 0) (heads all : List DayHead) (answer : Option DayHead) : Type 0 where
  pub rest : List DayHead
  pub split : all ≡ heads ++ rest
  pub walk : IsWalk next answer rest

pub walked_more : (next : DayHead → Option DayHead → Type 0) (heads all : List DayHead) (h : DayHead) (o : Option DayHead) → Walked next heads all (Some h) → next h o → Walked next (heads ++ h ∷ []) all o
walked_more next heads all h o w more = by w.rest w.split w.walk
  where
    by : (rest : List DayHead) → all ≡ heads ++ rest → IsWalk next (Some h) rest → Walked next (heads ++ h ∷ []) all o
    by [] split walk = absurd (cc)
    by (g ∷ gs) split walk =
        let same : h ≡ g = cc in
        record {
          rest = gs;
          split = split ∙ ap (λ (d : DayHead). heads ++ d ∷ gs) (sym same) ∙ sym (append_assoc heads (h ∷ []) gs);
          walk = walk.1 o (subst (λ (d : DayHead). next d o) same more);
        }

-- while it goes on, some are left
pub walked_less : (next : DayHead → Option DayHead → Type 0) (heads all : List DayHead) (h : DayHead) → Walked next heads all (Some h) → length heads < length all
walked_less next heads all h w = by w.rest w.split w.walk
  where
    by : (rest : List DayHead) → all ≡ heads ++ rest → IsWalk next (Some h) rest → length heads < length all
    by [] split walk = absurd (cc)
    by (g ∷ gs) split walk = omega (arith, ap length split, length-append heads (g ∷ gs))

pub walked_all : (next : DayHead → Option DayHead → Type 0) (heads all : List DayHead) → Walked next heads all None → heads ≡ all
walked_all next heads all w = by w.rest w.split w.walk
  where
    by : (rest : List DayHead) → all ≡ heads ++ rest → IsWalk next None rest → heads ≡ all
    by [] split walk = sym (split ∙ append-nil heads)
    by (g ∷ gs) split walk = absurd (cc)

pub walked_end : (next : DayHead → Option DayHead → Type 0) (heads all : List DayHead) (o : Option DayHead) → Walked next heads all o → ((h : DayHead) → o ≡ Some h → ⊥) → heads ≡ all
walked_end next heads all None w none = walked_all next heads all w
walked_end next heads all (Some h) w none = absurd (none h refl)

-- a head for each day
pub heads_count : (r : StringShape) (x : List ℕ) (so_far : ℕ) (days : List Day) → length (heads_from r x so_far days) ≡ length days
heads_count r x so_far [] = refl
heads_count r x so_far (d ∷ ds) = ap suc (heads_count r x (so_far + len_of d) ds)

-- the head of each day is that of the day which stands there
module _ (r : StringShape) (shape : IsStringShape r) (x : List ℕ) (inside : r.base + (4 + r.size) ≤ length x) where
  heads_there : (older later : List Day) → HoldsDays r x (older ++ later) → (i : ℕ) → i < length later → (h : DayHead) (e : Day) → IsDayAt r x (get_or (heads_from r x (total older) later) i h) (get_or later i e)
  heads_there older [] holds i low h e = absurd (omega (arith, low))
  heads_there older (d ∷ ds) holds zero low h e = record {
    here = day_here r shape x inside older d ds holds;
    head_is = refl;
    day = day_is 0 older d ds holds.ordered;
  }
  heads_there older (d ∷ ds) holds (suc i) low h e =
      let more : total (older ++ d ∷ []) ≡ total older + len_of d = total-append older (d ∷ []) ∙ omega arith in
      let rest = heads_there (older ++ d ∷ []) ds (subst (λ (l : List Day). HoldsDays r x l) (sym (append_assoc older (d ∷ []) ds)) holds) i (omega (arith, low)) h e in
      subst (λ (k : ℕ). IsDayAt r x (get_or (heads_from r x k ds) i h) (get_or ds i e)) more rest

  pub head_there : (days : List Day) → HoldsDays r x days → (i : ℕ) → i < length days → (h : DayHead) (e : Day) → IsDayAt r x (get_or (heads_of r x days) i h) (get_or days i e)
  head_there days holds i low h e = heads_there [] days holds i low h e

-- each word of a day has a minute of it
ascend_low : (minute : ℕ) (ws : List ℕ) → Ascend minute ws → (i : ℕ) → i < length ws → word_minute (get_or ws i 0) < 1440
ascend_low minute [] are i low = absurd (omega (arith, low))
ascend_low minute (w ∷ ws) are zero low = are.1
ascend_low minute (w ∷ ws) are (suc i) low = ascend_low (word_minute w) ws are.2 i (omega (arith, low))

pub word_low : (d : Day) → IsDay d → (i : ℕ) → i < length d.words → word_minute (get_or d.words i 0) < 1440
word_low d is i low = by d.words is.ordered i low
  where
    by : (ws : List ℕ) → AreWords ws → (i : ℕ) → i < length ws → word_minute (get_or ws i 0) < 1440
    by [] are i low = absurd are
    by (w ∷ ws) are zero low = omega (arith, are.0)
    by (w ∷ ws) are (suc i) low = ascend_low 0 ws are.1 i (omega (arith, low))
