-- A card is put in, or taken out: what its images show is a step of the joint rule.
use Rattle.std.proofs.Common.{◌≡◌, ◌⊎◌, inl, inr, ⊎_elim, ℕ, suc, ◌/◌, ◌%◌, ◌^◌, ◌<◌, ◌≤◌, max, Bool, true, false, cond, Some, List, [], ◌∷◌, ◌++◌, length, take, drop, filter, All, refl, ap, subst, ◌∙◌, sym, arith}
use Rattle.std.specs.Prelude.{nat_lt, nat_eq}
use Rattle.std.specs.List.{AllByRecursion}
use Rattle.std.proofs.Math.Seq.{take-append_seam, drop-append_seam}
use Rattle.std.proofs.lemmas.Bool.{cases_lt}
use Rattle.std.proofs.lemmas.Bool.Decides.{nat_tests}
use Rattle.std.proofs.lemmas.List.Elements.{All-from_recursion, All-weaker, All-nil}
use Rattle.activity_codec.specs.declared.entries.Entry.{Entry}
use Rattle.tacho_types.specs.declared.texts.Registration.{Registration}
use Rattle.unit_rule.specs.minute_model.Activity.{last}
use Rattle.card_layout.specs.declared.files.Application.{Application}
use Rattle.card_layout.specs.Application.{IsApplication}
use Rattle.card_layout.specs.Files.{image_size_of}
use Rattle.unit_rule.specs.card_model.Days.{Day}
use Rattle.unit_rule.specs.card_model.Changes.{trimmed}
use Rattle.unit_rule.specs.card_retention.Shown.{is_open}
use Rattle.unit_rule.specs.card_retention.Entries.{newest_minute, newest_word, closed_at as closed_on_card}
use Rattle.card_validity.specs.card_image.Fields.{card_days, end_mark, session_time}
use Rattle.card_validity.specs.card_image.Judging.{IsValid}
use Rattle.card_validity.specs.card_image.View.{CardView, card_view}
use Rattle.card_session.specs.Sessions.{Session, IsSession, newest_in, book_of}
use Rattle.card_session.specs.Inserting.{AreOwed, Follow, lacked, InsertingOpen, InsertingClosed, InsertsOpen, InsertsClosed}
use Rattle.card_session.specs.Repairs.{mark_behind, newest_behind, NewestSoFar, lacked_by}
use Rattle.card_session.proofs.InsertingBooks.{lacked_follow, follow_from}
use Rattle.card_session.proofs.InsertingSession.{open_session, closed_session, open_begun, closed_begun}
use Rattle.card_session.proofs.Renewing.{Renews, newest_first, newest_end, ends_answered, ends_low, moments_low, closed_renews, closed_answered}
use Rattle.card_session.proofs.Valid.{above_zero}
use Rattle.unit_rule.specs.device_rule.Views.{newest_with, beyond}
use Rattle.unit_rule.specs.device_rule.Steps.{IsInserting, IsInserted, replayed, IsTrimming}
use Rattle.unit_rule.proofs.device_rule.Brought.{closed-same}
use Rattle.device_calls.proofs.OnCard.{AnyStep, mark-is, session-is}

-- ---- entries that a card lacks

less_is : (m n : ℕ) → m < n → nat_lt m n ≡ true
less_is m n lt = grind (arith, nat_tests)

filter_later : (m mark : ℕ) (es : List Entry) → mark ≤ m → Follow m es → filter (λ e. nat_lt mark e.minute) es ≡ es
filter_later m mark [] low follow = refl
filter_later m mark (e ∷ es) low follow =
    ap (λ (b : Bool). cond b (e ∷ filter (λ (d : Entry). nat_lt mark d.minute) es) (filter (λ (d : Entry). nat_lt mark d.minute) es)) (less_is mark e.minute (omega (arith, low, follow.0)))
    ∙ ap (λ (l : List Entry). e ∷ l) (filter_later e.minute mark es (omega (arith, low, follow.0)) follow.1)

filter_lacked : (m mark : ℕ) (es : List Entry) → Follow m es → filter (λ e. nat_lt mark e.minute) es ≡ lacked mark es
filter_lacked m mark [] follow = refl
filter_lacked m mark (e ∷ es) follow = by (filter_lacked e.minute mark es follow.1) (nat_lt mark e.minute) refl
  where
    is_less : (m n : ℕ) → nat_lt m n ≡ true → m < n
    is_less m n is = grind (arith, nat_tests)

    by : filter (λ (d : Entry). nat_lt mark d.minute) es ≡ lacked mark es → (b : Bool) → nat_lt mark e.minute ≡ b → cond b (e ∷ filter (λ (d : Entry). nat_lt mark d.minute) es) (filter (λ (d : Entry). nat_lt mark d.minute) es) ≡ cond b (e ∷ es) (lacked mark es)
    by rest true is = ap (λ (l : List Entry). e ∷ l) (filter_later e.minute mark es (omega (arith, is_less mark e.minute is)) follow.1)
    by rest false is = rest

-- the first of them are up to the end mark behind them, the others are later
behind_up : (m : ℕ) (done rest : List Entry) → Follow m (done ++ rest) → AllByRecursion (λ e. e.minute ≤ mark_behind m done) done × (m ≤ mark_behind m done)
behind_up m [] rest follow = (tt, omega arith)
behind_up m (d ∷ done) rest follow = let later = behind_up d.minute done rest follow.1 in ((later.1, later.0), omega (arith, follow.0, later.1))

behind_rest : (m : ℕ) (done rest : List Entry) → Follow m (done ++ rest) → AllByRecursion (λ e. mark_behind m done < e.minute) rest
behind_rest m [] rest follow = follow_from m m rest (omega arith) follow
behind_rest m (d ∷ done) rest follow = behind_rest d.minute done rest follow.1

-- ---- the newest minute behind entries

closed_least : (e : Entry) → e.minute ≤ closed_on_card (Some e)
closed_least e = by (nat_eq (suc e.minute % 1440) 0)
  where
    by : (b : Bool) → e.minute ≤ cond b e.minute (suc e.minute)
    by true = omega arith
    by false = omega arith

mark_least : (m n : ℕ) (es : List Entry) → m ≤ n → mark_behind m es ≤ newest_behind n es
mark_least m n [] low = low
mark_least m n (e ∷ es) low = mark_least e.minute (closed_on_card (Some e)) es (closed_least e)

newest_append : (n : ℕ) (done rest : List Entry) → newest_behind n (done ++ rest) ≡ newest_behind (newest_behind n done) rest
newest_append n [] rest = refl
newest_append n (d ∷ done) rest = newest_append (closed_on_card (Some d)) done rest

last_behind : (n : ℕ) (e : Entry) (es : List Entry) → newest_behind n (e ∷ es) ≡ closed_on_card (last (e ∷ es))
last_behind n e [] = refl
last_behind n e (f ∷ es) = last_behind (closed_on_card (Some e)) f es

pub with_behind : (v : CardView) (es : List Entry) → newest_with v es ≡ newest_behind v.newest es
with_behind v [] = refl
with_behind v (e ∷ es) = closed-same (last (e ∷ es)) ∙ sym (last_behind v.newest e es)

newest_least : (m : ℕ) (ds : List Day) → m ≤ newest_minute m ds
newest_least m ds = by (is_open m ds)
  where
    by : (b : Bool) → m ≤ cond b (suc m) (max m (newest_word ds))
    by true = omega arith
    by false = omega arith

pub bound_of : (app : Application) (y : List ℕ) → (card_view app y).mark ≤ (card_view app y).newest
unfolding card_view
bound_of app y = newest_least (end_mark app y) (trimmed (end_mark app y) (card_days app y))

-- where the newest minute stays the end mark does not fall
pub renews-mark : (app : Application) (x y : List ℕ) → Renews app x y → (card_view app x).mark ≤ (card_view app y).mark
renews-mark app x y renews = ⊎_elim
    (λ same. omega (arith, ap (λ (n : ℕ). n / 60) same, mark-is app x, mark-is app y))
    (λ at. omega (arith, ap (λ (n : ℕ). n / 60) at, mark-is app x, mark-is app y, bound_of app x))
    renews.used

pub beyond_open : (v : CardView) → 0 < v.session → beyond v ≡ 0
beyond_open v some = ap (λ (b : Bool). cond b 0 v.word) (less_is 0 v.session some)

pub beyond_shut : (v : CardView) → v.session ≡ 0 → beyond v ≡ v.word
beyond_shut v none = ap (λ (n : ℕ). cond (nat_lt 0 n) 0 v.word) none

-- ---- of a card whose session was left open

module _ (app : Application) (sound : IsApplication app) (x : List ℕ) (fits : image_size_of app ≤ length x) (registration : Registration) (long : length registration.0 ≡ 15) (odometer now : ℕ) (few : now < 2 ^ 32) (owed : List Entry) (are : AreOwed now owed)
    (valid : IsValid app x) where
  module _ (session : 0 < session_time app x) where
    abbrev v : CardView
    v = card_view app x

    abbrev mark : ℕ
    mark = end_mark app x

    some : 0 < v.session
    some = omega (arith, session, session-is app x)

    brings : replayed owed (card_view app x) ≡ lacked_by app x owed
    brings =
        ap (λ (b : Bool). cond b (filter (λ (e : Entry). nat_lt (card_view app x).mark e.minute) owed) []) (less_is 0 (card_view app x).session some)
        ∙ ap (λ (m : ℕ). filter (λ (e : Entry). nat_lt m e.minute) owed) (mark-is app x) ∙ filter_lacked 1439 (end_mark app x) owed are.0

    ordered : Follow (end_mark app x) (lacked_by app x owed)
    ordered = lacked_follow 1439 (end_mark app x) owed are.0

    module _ (y : List ℕ) (first : NewestSoFar (end_mark app x) (card_view app x).newest (lacked_by app x owed) (end_mark app y) (card_view app y).newest) where
      taken : take (length first.done) (replayed owed (card_view app x)) ≡ first.done
      taken = ap (take (length first.done)) (brings ∙ first.split) ∙ take-append_seam first.done first.rest

      left : drop (length first.done) (replayed owed (card_view app x)) ≡ first.rest
      left = ap (drop (length first.done)) (brings ∙ first.split) ∙ drop-append_seam first.done first.rest

      split_ordered : Follow (end_mark app x) (first.done ++ first.rest)
      split_ordered = subst (Follow (end_mark app x)) first.split ordered

      up : AllByRecursion (λ e. e.minute ≤ mark_behind (end_mark app x) first.done) first.done × (end_mark app x ≤ mark_behind (end_mark app x) first.done)
      up = behind_up (end_mark app x) first.done first.rest split_ordered

      least : mark_behind (end_mark app x) first.done ≤ end_mark app y
      least = ⊎_elim (λ at. omega (arith, at))
          (λ full. omega (arith, full.1, first.newest, mark_least (end_mark app x) (card_view app x).newest first.done (omega (arith, mark-is app x, bound_of app x))))
          first.behind

      reached : All (λ e. e.minute ≤ (card_view app y).mark) first.done
      reached = All-weaker (λ (e : Entry). e.minute ≤ mark_behind (end_mark app x) first.done) (λ e. e.minute ≤ (card_view app y).mark) (λ e le. omega (arith, le, least, mark-is app y)) first.done
          (All-from_recursion (λ e. e.minute ≤ mark_behind (end_mark app x) first.done) first.done up.0)

      later : All (λ e. (card_view app y).mark < e.minute) first.rest
      later = ⊎_elim
          (λ at. All-weaker (λ (e : Entry). mark_behind (end_mark app x) first.done < e.minute) (λ e. (card_view app y).mark < e.minute) (λ e lt. omega (arith, lt, at, mark-is app y)) first.rest
          (All-from_recursion (λ e. mark_behind (end_mark app x) first.done < e.minute) first.rest (behind_rest (end_mark app x) first.done first.rest split_ordered)))
          (λ full. subst (All (λ (e : Entry). (card_view app y).mark < e.minute)) (sym full.0) (All-nil (λ (e : Entry). (card_view app y).mark < e.minute)))
          first.behind

      newest : newest_with (card_view app y) first.rest ≡ newest_with (card_view app x) (replayed owed (card_view app x))
      newest =
          with_behind (card_view app y) first.rest ∙ ap (λ (n : ℕ). newest_behind n first.rest) first.newest ∙ sym (newest_append (card_view app x).newest first.done first.rest)
          ∙ ap (newest_behind (card_view app x).newest) (sym (brings ∙ first.split)) ∙ sym (with_behind (card_view app x) (replayed owed (card_view app x)))

      opens : (session_time app y ≡ session_time app x) ⊎ (first.rest ≡ []) → (session_time app y ≡ session_time app x) ⊎ ((session_time app y ≡ 0) ⊎ (session_time app y ≡ now))
          → ((card_view app y).session ≡ (card_view app x).session) ⊎ ((drop (length first.done) (replayed owed (card_view app x)) ≡ []) × (((card_view app y).session ≡ 0) ⊎ ((card_view app y).session ≡ now)))
      opens (inl same) told = inl (session-is app y ∙ same ∙ sym (session-is app x))
      opens (inr all) (inl same) = inl (session-is app y ∙ same ∙ sym (session-is app x))
      opens (inr all) (inr (inl ended)) = inr (left ∙ all, inl (session-is app y ∙ ended))
      opens (inr all) (inr (inr begun)) = inr (left ∙ all, inr (session-is app y ∙ begun))

      pub step_open : InsertingOpen app registration odometer owed now x y → (session_time app y ≡ session_time app x) ⊎ (first.rest ≡ []) → IsInserting AnyStep owed now (card_view app x) (card_view app y)
      step_open moment kept = record {
        count = length first.done;
        held = λ next late. tt;
        mark = omega (arith, mark-is app x, mark-is app y, least, up.1);
        bound = bound_of app y;
        reached = subst (All (λ (e : Entry). e.minute ≤ (card_view app y).mark)) (sym taken) reached;
        lacked = subst (All (λ (e : Entry). (card_view app y).mark < e.minute)) (sym left) later;
        session = opens kept (open_session app x fits registration long now few odometer owed y moment);
        newest = ap (newest_with (card_view app y)) left ∙ newest;
        words = λ none. inl (omega (arith, moments_low app sound x fits registration long odometer now owed are valid (above_zero (session_time app x) session) y moment (sym (session-is app y) ∙ none), mark-is app y, bound_of app y));
      }

    pub inserting_open : (y : List ℕ) → InsertingOpen app registration odometer owed now x y → IsInserting AnyStep owed now (card_view app x) (card_view app y)
    inserting_open y moment =
        let first = newest_first app sound x fits registration long odometer now owed are valid (above_zero (session_time app x) session) y moment in
        step_open y first.0 moment first.1

    pub inserted_open : (y : List ℕ) (s : Session) → s.application ≡ app → IsSession s y → InsertsOpen app registration odometer owed now x y → IsInserting AnyStep owed now (card_view app x) (card_view app y)
        → IsInserted AnyStep owed now s.minute (card_view app x) (card_view app y)
    inserted_open y s same knows done moment = record {
      inserting = moment;
      session = session-is app y ∙ open_begun app x fits registration long now few odometer owed y done;
      words = inl (omega (arith, ends_low app sound x fits registration long odometer now owed are valid (above_zero (session_time app x) session) y done, mark-is app y, bound_of app y));
      answered =
          let minute : s.minute ≡ newest_in (book_of app y) = knows.minute ∙ ap (λ (p : Application). newest_in (book_of p y)) same in
          let answer = ends_answered app sound x fits registration long odometer now owed are valid (above_zero (session_time app x) session) y done in
          let at = newest_end app sound x fits registration long odometer now owed are valid (above_zero (session_time app x) session) y done in
          let with_ : newest_with (card_view app x) (replayed owed (card_view app x)) ≡ newest_behind (card_view app x).newest (lacked_by app x owed) =
          with_behind (card_view app x) (replayed owed (card_view app x)) ∙ ap (newest_behind (card_view app x).newest) brings in
          omega (arith, minute, answer, at, with_, beyond_open (card_view app x) some);
    }

  -- ---- of a card without a session

  module _ (none : session_time app x ≡ 0) where
    shut : (card_view app x).session ≡ 0
    shut = session-is app x ∙ none

    nothing : replayed owed (card_view app x) ≡ []
    nothing = ap (λ (n : ℕ). cond (nat_lt 0 n) (filter (λ (e : Entry). nat_lt (card_view app x).mark e.minute) owed) []) shut

    module _ (y : List ℕ) (renews : Renews app x y) where
      trims : IsTrimming (card_view app x) (card_view app y)
      trims = ⊎_elim
          (λ late. inr (shut, omega (arith, late, renews.word, renews.newest), renews.newest))
          (λ low. inl low)
          (cases_lt (card_view app y).newest (card_view app y).word)

      pub step_shut : (session_time app y ≡ session_time app x) ⊎ ((session_time app y ≡ 0) ⊎ (session_time app y ≡ now)) → IsInserting AnyStep owed now (card_view app x) (card_view app y)
      step_shut told = record {
        count = 0;
        held = λ next late. tt;
        mark = renews-mark app x y renews;
        bound = bound_of app y;
        reached = All-nil (λ (e : Entry). e.minute ≤ (card_view app y).mark);
        lacked = subst (All (λ (e : Entry). (card_view app y).mark < e.minute)) (sym nothing) (All-nil (λ (e : Entry). (card_view app y).mark < e.minute));
        session = ⊎_elim
            (λ same. inl (session-is app y ∙ same ∙ sym (session-is app x)))
            (λ other. ⊎_elim (λ zero_. inl (session-is app y ∙ zero_ ∙ sym shut)) (λ begun. inr (nothing, inr (session-is app y ∙ begun))) other) told;
        newest = ap (newest_with (card_view app y)) nothing ∙ renews.newest ∙ sym (ap (newest_with (card_view app x)) nothing);
        words = λ ended. trims;
      }

    pub inserting_shut : (y : List ℕ) → InsertingClosed app registration now x y → IsInserting AnyStep owed now (card_view app x) (card_view app y)
    inserting_shut y moment = step_shut y (closed_renews app sound x fits registration long now valid none y moment) (closed_session app x fits registration long now few odometer owed y moment)

    pub inserted_shut : (y : List ℕ) (s : Session) → s.application ≡ app → IsSession s y → InsertsClosed app registration now x y → InsertingClosed app registration now x y → IsInserted AnyStep owed now s.minute (card_view app x) (card_view app y)
    inserted_shut y s same knows done moment = record {
      inserting = inserting_shut y moment;
      session = session-is app y ∙ closed_begun app x fits registration long now few odometer owed y done;
      words = trims y (closed_renews app sound x fits registration long now valid none y moment);
      answered =
          let minute : s.minute ≡ newest_in (book_of app y) = knows.minute ∙ ap (λ (p : Application). newest_in (book_of p y)) same in
          let answer = closed_answered app sound x fits registration long now valid none y done in
          let with_ : newest_with (card_view app x) (replayed owed (card_view app x)) ≡ (card_view app x).newest = ap (newest_with (card_view app x)) nothing in
          omega (arith, minute, answer, with_, beyond_shut (card_view app x) shut);
    }
