-- What an image of the unit says of a minute, where its days are the start's filled with minutes.
use Rattle.std.proofs.Common.{◌≡◌, ◌⊎◌, inl, inr, ⊎_elim, ℕ, ◌+◌, ◌<◌, ◌≤◌, Bool, true, false, cond, Option, Some, List, [], ◌∷◌, ◌++◌, All, Contains, map, refl, ap, subst, ◌∙◌, sym, arith}
use Rattle.std.specs.Prelude.{nat_eq, find, unwrap_or, option_map}
use Rattle.std.proofs.lemmas.Bool.Decides.{nat_tests}
use Rattle.std.proofs.lemmas.List.Elements.{All-nil, All-cons, All-tail, All-head, Contains-append_left, Contains-append_right, Contains-push_cases, Contains-append_cases}
use Rattle.device_rule.specs.unit_model.Days.{UnitMinute, ShownDay, unknown_minute, newest_days}
use Rattle.device_rule.specs.unit_model.Image.{recorded, unit_days, unit_minutes, last_kept}
use Rattle.device_rule.specs.unit_model.Decoding.{Decodes}
use Rattle.device_rule.specs.history_model.Minutes.{HistoryMinute}
use Rattle.device_rule.specs.history_model.Book.{IsMark, IsFork}
use Rattle.device_rule.specs.history_model.Growth.{Rises}
use Rattle.device_rule.proofs.history_model.Decided.{rises-within, rises-split}
use Rattle.device_rule.specs.Filling.{seen_by_unit, filled_with, FillsDays}
use Rattle.short_promise.specs.InShort.{said, IsOverwritten, due, HasAll}
use Rattle.days_told.proofs.Lost.{IsParted}
use Rattle.days_told.proofs.Turning.{InTurn, image-daily, all-daily, Rising}
use Rattle.days_told.proofs.Saying.{look, told, told-behind, Under, kept-under, told-all, told-newest, look-among, IsOlder}

pub said-told : (x : List ℕ) (m : ℕ) → said x m ≡ told (recorded x) m
unfolding unit_minutes
said-told x m = refl

pub image-under : (x : List ℕ) → Under (last_kept x) (recorded x)
unfolding recorded
image-under x = kept-under (last_kept x) (unit_days x)

-- BEHIND ITS LAST-KEPT MINUTE an image says nothing, whatever bytes it has
pub said-behind : (x : List ℕ) (m : ℕ) → last_kept x < m → said x m ≡ unknown_minute m
said-behind x m lt = said-told x m ∙ told-behind (last_kept x) m (recorded x) lt (image-under x)

-- MINUTES of the history as the unit holds them
pub rises-rising : (first a until : ℕ) (some rest : List HistoryMinute) → first < a → Rises a (some ++ rest) until → Rising first (map seen_by_unit some)
rises-rising first a until [] rest lt rises = tt
rises-rising first a until (i ∷ some) rest lt rises =
    let low : a ≤ i.minute = rises.0 in
    (omega (arith, lt, low), rises-rising i.minute (i.minute + 1) until some rest (omega arith) rises.1)

append-none : (xs : List HistoryMinute) → xs ++ [] ≡ xs
append-none [] = refl
append-none (x ∷ xs) = ap (λ (ys : List HistoryMinute). x ∷ ys) (append-none xs)

found-due : (past : List HistoryMinute) (m : ℕ) (z : UnitMinute) → look (map seen_by_unit past) m z ≡ unwrap_or (option_map seen_by_unit (find (λ (i : HistoryMinute). nat_eq i.minute m) past)) z
found-due [] m z = refl
found-due (i ∷ past) m z = by (found-due past m z) (nat_eq i.minute m)
  where
    by : look (map seen_by_unit past) m z ≡ unwrap_or (option_map seen_by_unit (find (λ (i : HistoryMinute). nat_eq i.minute m) past)) z → (b : Bool) →
        unwrap_or (cond b (Some (seen_by_unit i)) (find (λ (k : UnitMinute). nat_eq k.minute m) (map seen_by_unit past))) z
        ≡ unwrap_or (option_map seen_by_unit (cond b (Some i) (find (λ (i : HistoryMinute). nat_eq i.minute m) past))) z
    by rest true = refl
    by rest false = rest

pub look-due : (start : List ℕ) (past : List HistoryMinute) (m : ℕ) → look (map seen_by_unit past) m (said start m) ≡ due start past m
look-due start past m = found-due past m (said start m)

-- what is due of a minute stays where later ones are added
due-later : (start : List ℕ) (rest : List HistoryMinute) (m : ℕ) → All (λ (j : HistoryMinute). m < j.minute) rest → due start rest m ≡ said start m
due-later start [] m later = refl
due-later start (j ∷ rest) m later =
    ap (λ (b : Bool). unwrap_or (option_map seen_by_unit (cond b (Some j) (find (λ (i : HistoryMinute). nat_eq i.minute m) rest))) (said start m)) (apart j.minute (All-head (λ (j : HistoryMinute). m < j.minute) j rest later))
    ∙ due-later start rest m (All-tail (λ (j : HistoryMinute). m < j.minute) j rest later)
  where
    apart : (a : ℕ) → m < a → nat_eq a m ≡ false
    apart a lt = grind (arith, nat_tests)

pub due-front : (start : List ℕ) (some rest : List HistoryMinute) (m : ℕ) → All (λ (j : HistoryMinute). m < j.minute) rest → due start (some ++ rest) m ≡ due start some m
due-front start [] rest m later = due-later start rest m later
due-front start (i ∷ some) rest m later = by (due-front start some rest m later) (nat_eq i.minute m)
  where
    by : due start (some ++ rest) m ≡ due start some m → (b : Bool) → unwrap_or (option_map seen_by_unit (cond b (Some i) (find (λ (i : HistoryMinute). nat_eq i.minute m) (some ++ rest)))) (said start m)
        ≡ unwrap_or (option_map seen_by_unit (cond b (Some i) (find (λ (i : HistoryMinute). nat_eq i.minute m) some))) (said start m)
    by rest_ true = refl
    by rest_ false = rest_

module _ (start : List ℕ) (decodes : Decodes start) where
  -- days filled with minutes say what is due, or have overwritten it
  fills-says : (next : Option HistoryMinute) (some : List HistoryMinute) (days : List ShownDay) (m : ℕ) → Rising (last_kept start) (map seen_by_unit some) → FillsDays (recorded start) next some days →
      (told days m ≡ due start some m) ⊎ IsOlder 365 days m
  fills-says next some days m rising fills = ⊎_elim
      (λ whole. of 366 (omega arith) whole)
      (λ less. of 365 (omega arith) less.1)
      fills
    where
      all : List ShownDay
      all = filled_with (recorded start) some

      turn : InTurn 0 all
      turn = all-daily (last_kept start) (recorded start) (map seen_by_unit some) (image-daily start decodes) rising

      says : told all m ≡ due start some m
      says = told-all (last_kept start) (recorded start) (map seen_by_unit some) m (image-under start) rising ∙ ap (look (map seen_by_unit some) m) (sym (said-told start m)) ∙ look-due start some m

      of : (n : ℕ) → 365 ≤ n → days ≡ newest_days n all → (told days m ≡ due start some m) ⊎ IsOlder 365 days m
      of n enough is = subst (λ (ds : List ShownDay). (told ds m ≡ due start some m) ⊎ IsOlder 365 ds m) (sym is) (⊎_elim (λ same. inl (same ∙ says)) (λ older. inr older) (told-newest 365 n all m enough turn))

  -- SO DOES AN IMAGE
  pub shows-says : (next : Option HistoryMinute) (some : List HistoryMinute) (x : List ℕ) (m : ℕ) → Rising (last_kept start) (map seen_by_unit some) → FillsDays (recorded start) next some (recorded x) →
      (said x m ≡ due start some m) ⊎ IsOverwritten x m
  shows-says next some x m rising fills = ⊎_elim
      (λ same. inl (said-told x m ∙ same))
      (λ older. inr (record { later = older.later; many = older.many }))
      (fills-says next some (recorded x) m rising fills)

  -- a minute that is among them is due
  pub due-among : (some : List HistoryMinute) (i : HistoryMinute) → Rising (last_kept start) (map seen_by_unit some) → Contains some i → due start some i.minute ≡ seen_by_unit i
  due-among some i rising at = sym (look-due start some i.minute) ∙ look-among (last_kept start) (map seen_by_unit some) (seen_by_unit i) (said start i.minute) rising (mapped some at)
    where
      mapped : (some : List HistoryMinute) → Contains some i → Contains (map seen_by_unit some) (seen_by_unit i)
      mapped [] at = absurd (omega (arith, at.1))
      mapped (j ∷ some) at = ⊎_elim
          (λ here. ⊎_elim
          (λ none. absurd (omega (arith, none.1)))
          (λ (is : j ≡ i). Contains-append_left (seen_by_unit j ∷ []) (map seen_by_unit some) (seen_by_unit i) (0, omega arith, ap seen_by_unit is))
          (Contains-push_cases [] j i here))
          (λ there. Contains-append_right (seen_by_unit j ∷ []) (map seen_by_unit some) (seen_by_unit i) (mapped some there))
          (Contains-append_cases (j ∷ []) some i at)

  -- THE HISTORY, from a minute on that is later than the start's last-kept one, and what cuts left of it
  module _ (a until : ℕ) (past : List HistoryMinute) (lost : List (List HistoryMinute)) (first : last_kept start < a) (rises : Rises a past until) (parted : (l : List HistoryMinute) → Contains lost l → IsParted a until past l) where
    pub passed-rising : (some : List HistoryMinute) → ((rest : List HistoryMinute) × (past ≡ some ++ rest)) ⊎ Contains lost some → Rising (last_kept start) (map seen_by_unit some)
    passed-rising some (inl front) = rises-rising (last_kept start) a until some front.0 first (subst (λ (is : List HistoryMinute). Rises a is until) front.1 rises)
    passed-rising some (inr gone) = rises-rising (last_kept start) a until some [] first (subst (λ (is : List HistoryMinute). Rises a is until) (sym (append-none some)) (parted some gone).rises)

    pub has-all : (next : Option HistoryMinute) (some : List HistoryMinute) (x : List ℕ) → Decodes x → ((rest : List HistoryMinute) × (past ≡ some ++ rest)) ⊎ Contains lost some → FillsDays (recorded start) next some (recorded x) →
        IsMark (last_kept start) some (last_kept x) → HasAll start past lost x
    has-all next some x ok passed fills mark = go passed
      where
        says : (m : ℕ) → (said x m ≡ due start some m) ⊎ IsOverwritten x m
        says m = shows-says next some x m (passed-rising some passed) fills

        all-by : (P : HistoryMinute → Type 0) (xs : List HistoryMinute) → ((j : HistoryMinute) → Contains xs j → P j) → All P xs
        all-by P [] each = All-nil P
        all-by P (x ∷ xs) each = All-cons P x xs (each x (Contains-append_left (x ∷ []) xs x (0, omega arith, refl))) (all-by P xs (λ j at. each j (Contains-append_right (x ∷ []) xs j at)))

        go : ((rest : List HistoryMinute) × (past ≡ some ++ rest)) ⊎ Contains lost some → HasAll start past lost x
        go (inr gone) = record { history = some; is = inr gone; decodes = ok; last = mark; says = λ m le. says m }
        go (inl front) = record {
          history = past;
          is = inl refl;
          decodes = ok;
          last = ⊎_elim (λ is. inl is) (λ at. inr (at.0, subst (λ (is : List HistoryMinute). Contains is at.0) (sym front.1) (Contains-append_left some front.0 at.0 at.1), at.2)) mark;
          says = λ m le. ⊎_elim
              (λ same. inl (same ∙ sym (ap (λ (is : List HistoryMinute). due start is m) front.1 ∙ due-front start some front.0 m (all-by (λ (j : HistoryMinute). m < j.minute) front.0 (λ j at. later m le j at)))))
              (λ older. inr older)
              (says m);
        }
          where
            split : Rises a (some ++ front.0) until
            split = subst (λ (is : List HistoryMinute). Rises a is until) front.1 rises

            later : (m : ℕ) → m ≤ last_kept x → (j : HistoryMinute) → Contains front.0 j → m < j.minute
            later m le j at = ⊎_elim
                (λ is. let low : a ≤ j.minute = (rises-within a until (some ++ front.0) j split (Contains-append_right some front.0 j at)).0 in omega (arith, le, is, low, first))
                (λ i. let lt = rises-split a until some front.0 i.0 j split i.1 at in let is = i.2 in omega (arith, le, is, lt))
                mark

    -- what is due of a minute of the history, up to the last one that an image has
    pub due-history : (p : List HistoryMinute) → (p ≡ past) ⊎ Contains lost p → (k : ℕ) → IsMark (last_kept start) p k → (i : HistoryMinute) → Contains past i → i.minute ≤ k → due start p i.minute ≡ seen_by_unit i
    due-history p (inl is) k mark i at le =
        subst (λ (q : List HistoryMinute). due start q i.minute ≡ seen_by_unit i) (sym is) (due-among past i (passed-rising past (inl ([], sym (append-none past)))) at)
    due-history p (inr gone) k mark i at le = ⊎_elim
        (λ before. due-among p i (passed-rising p (inr gone)) (subst (λ (q : List HistoryMinute). Contains q i) (sym fork.parts) (Contains-append_left fork.front fork.tail i before)))
        (λ behind. absurd (⊎_elim
        (λ first_. let low : a ≤ i.minute = (rises-within a until past i rises at).0 in omega (arith, low, le, first_, first))
        (λ j. let is = j.2 in ⊎_elim
        (λ before. let lt = rises-split a until fork.front fork.rest j.0 i (subst (λ (q : List HistoryMinute). Rises a q until) fork.goes rises) before behind in omega (arith, is, lt, le))
        (λ mine. let lt = fork.earlier j.0 i mine behind in omega (arith, is, lt, le))
        (Contains-append_cases fork.front fork.tail j.0 (subst (λ (q : List HistoryMinute). Contains q j.0) fork.parts j.1)))
        mark))
        (Contains-append_cases fork.front fork.rest i (subst (λ (q : List HistoryMinute). Contains q i) fork.goes at))
      where
        fork : IsFork past p
        fork = (parted p gone).fork
