-- A valid card without a session, whose words are closed, is valid at each moment of an insertion.
use Rattle.std.proofs.Common.{◌≡◌, inl, inr, ℕ, suc, ◌+◌, ◌/◌, ◌≤◌, Bool, true, false, cond, not, ◌&&◌, Option, Some, None, List, [], ◌∷◌, ◌++◌, length, map, filter, refl, sym, ◌∙◌, ap, subst, arith}
use Rattle.std.specs.Prelude.{nat_eq, nat_lt, nat_le}
use Rattle.std.proofs.lemmas.Bool.{eqb-true}
use Rattle.activity_codec.specs.declared.values.Activity.TheVariants.{Rest}
use Rattle.activity_codec.specs.declared.entries.Entry.{Entry}
use Rattle.activity_codec.specs.Words.{word_minute, word_absent}
use Rattle.tacho_types.specs.declared.texts.Registration.{Registration}
use Rattle.card_layout.specs.declared.files.Application.{Application}
use Rattle.card_layout.specs.Application.{IsApplication}
use Rattle.card_layout.specs.Files.{image_size_of, place_of}
use Rattle.card_days.specs.card_model.Days.{Day, AreDays, len_of}
use Rattle.card_days.specs.card_model.Changes.{date_of, trimmed}
use Rattle.card_days.specs.card_model.Checks.{check, first_failing}
use Rattle.card_days.specs.card_model.Image.{oldest_pointer}
use Rattle.card_days.proofs.card_model.Judging.{first_passes}
use Rattle.card_days.proofs.card_model.Trims.{are_trimmed}
use Rattle.card_validity.specs.card_retention.Shown.{is_open}
use Rattle.card_validity.specs.card_image.Fields.{file, day_string, last_of, card_days, end_mark, session_time}
use Rattle.card_validity.specs.card_image.Beside.{HaveSameSizes, HaveSamePlacePointer}
use Rattle.card_validity.specs.card_image.Judging.{PlacedWord, minute_at, words_placed, days_placed, tells_none, leaves_gap, closing_checks, words_behind_mark, newest_rises, word_checks, IsValid}
use Rattle.card_validity.proofs.card_image.Beside.{days_same}
use Rattle.card_validity.specs.Words.{first_of}
use Rattle.card_validity.proofs.Checking.{checks_closed}
use Rattle.card_session.specs.Books.{Book, mark_of}
use Rattle.card_session.specs.Sessions.{EndsStrictly, book_of}
use Rattle.card_session.specs.Moments.{IsBook, IsCloseMoment}
use Rattle.card_session.specs.Inserting.{IsStill, IsShutting, InsertingClosed}
use Rattle.card_session.proofs.Composing.{told_book}
use Rattle.card_session.proofs.Valid.{valid_by, valid_words, passes_strict, strict_passes}
use Rattle.card_session.proofs.InsertingUse.{use_inside}
use Rattle.card_session.proofs.InsertingOpen.{opening_same}
use Rattle.card_session.proofs.InsertingAgain.{inserting_keeps}
use Rattle.card_session.proofs.InsertingValid.{first_none}
use Rattle.card_session.proofs.Repairing.{mark_beside, closed_still}
use Rattle.card_session.proofs.Revalid.{Fine, card_fine, beside_fine, fine_open, strict_told}

-- ---- what is tested of the words behind the end mark does not look at their places

abbrev SameWord : PlacedWord → PlacedWord → Type 0
SameWord w v = (v.date ≡ w.date) × (v.word ≡ w.word)

abbrev SameWords : List PlacedWord → List PlacedWord → Type 0
SameWords [] [] = Unit {0}
SameWords [] (v ∷ vs) = ⊥
SameWords (w ∷ ws) [] = ⊥
SameWords (w ∷ ws) (v ∷ vs) = SameWord w v × SameWords ws vs

abbrev SameLast : Option PlacedWord → Option PlacedWord → Type 0
SameLast None None = Unit {0}
SameLast None (Some v) = ⊥
SameLast (Some w) None = ⊥
SameLast (Some w) (Some v) = SameWord w v

words_same : (size o p k date : ℕ) (ws : List ℕ) → SameWords (words_placed size o k date ws) (words_placed size p k date ws)
words_same size o p k date [] = tt
words_same size o p k date (w ∷ ws) = ((refl, refl), words_same size o p (k + 2) date ws)

append_same : (a b c d : List PlacedWord) → SameWords a b → SameWords c d → SameWords (a ++ c) (b ++ d)
append_same [] [] c d first next = next
append_same [] (v ∷ b) c d first next = absurd first
append_same (w ∷ a) [] c d first next = absurd first
append_same (w ∷ a) (v ∷ b) c d first next = (first.0, append_same a b c d first.1 next)

all_same : (size o p k : ℕ) (ds : List Day) → SameWords (days_placed size o k ds) (days_placed size p k ds)
all_same size o p k [] = tt
all_same size o p k (d ∷ ds) =
    append_same (words_placed size o (k + 12) d.date d.words) (words_placed size p (k + 12) d.date d.words) (days_placed size o (k + len_of d) ds) (days_placed size p (k + len_of d) ds)
    (words_same size o p (k + 12) d.date d.words) (all_same size o p (k + len_of d) ds)

filter_same : (f : PlacedWord → Bool) → ((w v : PlacedWord) → SameWord w v → f v ≡ f w) → (ws vs : List PlacedWord) → SameWords ws vs → SameWords (filter f ws) (filter f vs)
filter_same f looks [] [] same = tt
filter_same f looks [] (v ∷ vs) same = absurd same
filter_same f looks (w ∷ ws) [] same = absurd same
filter_same f looks (w ∷ ws) (v ∷ vs) same = by (filter_same f looks ws vs same.1)
  where
    either : (b : Bool) → SameWords (filter f ws) (filter f vs) → SameWords (cond b (w ∷ filter f ws) (filter f ws)) (cond b (v ∷ filter f vs) (filter f vs))
    either true rest = (same.0, rest)
    either false rest = rest

    by : SameWords (filter f ws) (filter f vs) → SameWords (filter f (w ∷ ws)) (filter f (v ∷ vs))
    by rest = subst (λ (b : Bool). SameWords (cond (f w) (w ∷ filter f ws) (filter f ws)) (cond b (v ∷ filter f vs) (filter f vs))) (sym (looks w v same.0)) (either (f w) rest)

last_same : (ws vs : List PlacedWord) → SameWords ws vs → SameLast (last_of ws) (last_of vs)
last_same [] [] same = tt
last_same [] (v ∷ vs) same = absurd same
last_same (w ∷ ws) [] same = absurd same
last_same (w ∷ []) (v ∷ []) same = same.0
last_same (w ∷ []) (v ∷ y ∷ vs) same = absurd same.1
last_same (w ∷ x ∷ ws) (v ∷ []) same = absurd same.1
last_same (w ∷ x ∷ ws) (v ∷ y ∷ vs) same = last_same (x ∷ ws) (y ∷ vs) same.1

minute_same : (w v : PlacedWord) → SameWord w v → minute_at v ≡ minute_at w
minute_same w v same = ap (λ (d : ℕ). d / 60 + word_minute v.word) same.0 ∙ ap (λ (n : ℕ). w.date / 60 + word_minute n) same.1

none_same : (w v : PlacedWord) → SameWord w v → tells_none v ≡ tells_none w
none_same w v same = ap word_absent same.1

gap_same : (mark : ℕ) (l m : Option PlacedWord) (w v : PlacedWord) → SameLast l m → SameWord w v → leaves_gap mark m v ≡ leaves_gap mark l w
gap_same mark None None w v last same = refl
gap_same mark None (Some m) w v last same = absurd last
gap_same mark (Some l) None w v last same = absurd last
gap_same mark (Some l) (Some m) w v last same =
    ap (λ (d : ℕ). nat_eq d (date_of mark) && (not (tells_none m) && not (nat_eq (minute_at v) (suc mark)))) last.0
    ∙ ap (λ (b : Bool). nat_eq l.date (date_of mark) && (not b && not (nat_eq (minute_at v) (suc mark)))) (none_same l m last)
    ∙ ap (λ (n : ℕ). nat_eq l.date (date_of mark) && (not (tells_none l) && not (nat_eq n (suc mark)))) (minute_same w v same)

rest_passes : (ws vs : List PlacedWord) → SameWords ws vs → first_failing (map (λ (v : PlacedWord). check (tells_none v) v.place) ws) ≡ None → first_failing (map (λ (v : PlacedWord). check (tells_none v) v.place) vs) ≡ None
rest_passes [] [] same pass = refl
rest_passes [] (v ∷ vs) same pass = absurd same
rest_passes (w ∷ ws) [] same pass = absurd same
rest_passes (w ∷ ws) (v ∷ vs) same pass =
    let one = first_passes (tells_none w) w.place (map (λ (u : PlacedWord). check (tells_none u) u.place) ws) pass in
    ap (λ (b : Bool). cond b (first_failing (map (λ (u : PlacedWord). check (tells_none u) u.place) vs)) (Some v.place)) (none_same w v same.0 ∙ one.0)
    ∙ rest_passes ws vs same.1 one.1

closing_passes : (mark : ℕ) (l m : Option PlacedWord) (ws vs : List PlacedWord) → SameLast l m → SameWords ws vs → first_failing (closing_checks mark l ws) ≡ None → first_failing (closing_checks mark m vs) ≡ None
closing_passes mark l m [] [] last same pass = refl
closing_passes mark l m [] (v ∷ vs) last same pass = absurd same
closing_passes mark l m (w ∷ ws) [] last same pass = absurd same
closing_passes mark l m (w ∷ ws) (v ∷ vs) last same pass =
    let one = first_passes (tells_none w && not (leaves_gap mark l w)) w.place (map (λ (u : PlacedWord). check (tells_none u) u.place) ws) pass in
    ap (λ (b : Bool). cond b (first_failing (map (λ (u : PlacedWord). check (tells_none u) u.place) vs)) (Some v.place))
    (ap (λ (a : Bool). a && not (leaves_gap mark m v)) (none_same w v same.0) ∙ ap (λ (a : Bool). tells_none w && not a) (gap_same mark l m w v last same.0) ∙ one.0)
    ∙ rest_passes ws vs same.1 one.1

behind_passes : (mark : ℕ) (ws vs : List PlacedWord) → SameWords ws vs → first_failing (words_behind_mark mark ws) ≡ None → first_failing (words_behind_mark mark vs) ≡ None
behind_passes mark ws vs same pass =
    closing_passes mark (last_of (filter (λ (w : PlacedWord). nat_le (minute_at w) mark) ws)) (last_of (filter (λ (w : PlacedWord). nat_le (minute_at w) mark) vs))
    (filter (λ (w : PlacedWord). nat_lt mark (minute_at w)) ws) (filter (λ (w : PlacedWord). nat_lt mark (minute_at w)) vs)
    (last_same (filter (λ (w : PlacedWord). nat_le (minute_at w) mark) ws) (filter (λ (w : PlacedWord). nat_le (minute_at w) mark) vs)
    (filter_same (λ (w : PlacedWord). nat_le (minute_at w) mark) (λ w v one. ap (λ (n : ℕ). nat_le n mark) (minute_same w v one)) ws vs same))
    (filter_same (λ (w : PlacedWord). nat_lt mark (minute_at w)) (λ w v one. ap (λ (n : ℕ). nat_lt mark n) (minute_same w v one)) ws vs same)
    pass

-- ---- a card without a session, and another with the same days and end mark

module _ (app : Application) (x : List ℕ) (valid : IsValid app x) (none : session_time app x ≡ 0) where
  abbrev behind : Option ℕ
  behind = first_failing (words_behind_mark (end_mark app x) (days_placed app.activity (oldest_pointer (day_string app) x) 0 (card_days app x)))

  abbrev cut : Option ℕ
  cut = first_failing (newest_rises app.activity (oldest_pointer (day_string app) x) 0 (trimmed (end_mark app x) (card_days app x)))

  abbrev whole : Option ℕ
  whole = first_failing (newest_rises app.activity (oldest_pointer (day_string app) x) 0 (card_days app x))

  -- each of the three passes
  three : (behind ≡ None) × (cut ≡ None) × (whole ≡ None)
  three =
      let all : first_of behind (first_of cut whole) ≡ None =
      sym (checks_closed app.activity (oldest_pointer (day_string app) x) (end_mark app x) (session_time app x) (card_days app x) (ap (λ (n : ℕ). nat_eq n 0) none)) ∙ valid_words app x valid in
      let one = first_none behind (first_of cut whole) all in
      let two = first_none cut whole one.1 in
      (one.0, two.0, two.1)

  strict_up_to : AreDays 0 (card_days app x) → EndsStrictly (trimmed (end_mark app x) (card_days app x))
  strict_up_to are = passes_strict app.activity (oldest_pointer (day_string app) x) 0 0 (trimmed (end_mark app x) (card_days app x)) (are_trimmed (end_mark app x) 0 (card_days app x) are) three.1

  pub strict_book : AreDays 0 (card_days app x) → EndsStrictly (trimmed (mark_of (book_of app x)) (book_of app x).days)
  unfolding book_of
  strict_book are = strict_up_to are

  module _ (are : AreDays 0 (card_days app x)) (y : List ℕ) (days : card_days app y ≡ card_days app x) (mark : end_mark app y ≡ end_mark app x) (fine : Fine app y) where
    abbrev oldest : ℕ
    oldest = oldest_pointer (day_string app) y

    there : first_failing (word_checks app.activity oldest (end_mark app x) 0 (card_days app x)) ≡ None
    there =
        let strict : EndsStrictly (card_days app x) = passes_strict app.activity (oldest_pointer (day_string app) x) 0 0 (card_days app x) are three.2 in
        let strict_cut : EndsStrictly (trimmed (end_mark app x) (card_days app x)) = strict_up_to are in
        checks_closed app.activity oldest (end_mark app x) 0 (card_days app x) refl
        ∙ ap (λ (o : Option ℕ). first_of o (first_of (first_failing (newest_rises app.activity oldest 0 (trimmed (end_mark app x) (card_days app x)))) (first_failing (newest_rises app.activity oldest 0 (card_days app x)))))
        (behind_passes (end_mark app x) (days_placed app.activity (oldest_pointer (day_string app) x) 0 (card_days app x)) (days_placed app.activity oldest 0 (card_days app x))
        (all_same app.activity (oldest_pointer (day_string app) x) oldest 0 (card_days app x)) three.0)
        ∙ ap (λ (o : Option ℕ). first_of o (first_failing (newest_rises app.activity oldest 0 (card_days app x)))) (strict_passes app.activity oldest 0 (trimmed (end_mark app x) (card_days app x)) strict_cut)
        ∙ strict_passes app.activity oldest 0 (card_days app x) strict

    pub same_valid : HaveSameSizes app x y → HaveSamePlacePointer app x y → IsValid app y
    same_valid sizes places = by (nat_eq (session_time app y) 0) refl
      where
        zero_is : (n : ℕ) → nat_eq n 0 ≡ true → n ≡ 0
        zero_is n is = eqb-true n 0 is

        by : (t : Bool) → nat_eq (session_time app y) 0 ≡ t → IsValid app y
        by false is = fine_open app x y valid sizes places fine is
        by true is =
            valid_by app x valid y sizes places fine.days fine.points
            (ap (λ (n : ℕ). first_failing (word_checks app.activity oldest (end_mark app y) n (card_days app y))) (zero_is (session_time app y) is)
            ∙ ap (λ (m : ℕ). first_failing (word_checks app.activity oldest m 0 (card_days app y))) mark
            ∙ ap (λ (ds : List Day). first_failing (word_checks app.activity oldest (end_mark app x) 0 ds)) days ∙ there)

-- ---- at each moment of an insertion

module _ (app : Application) (sound : IsApplication app) (x : List ℕ) (fits : image_size_of app ≤ length x) (registration : Registration) (long : length registration.0 ≡ 15) (odometer now : ℕ) (owed : List Entry)
    (valid : IsValid app x) (none : session_time app x ≡ 0) (shut : is_open (end_mark app x) (card_days app x) ≡ false) where
  still_valid : (y : List ℕ) → AreDays 0 (card_days app x) → card_days app y ≡ card_days app x → end_mark app y ≡ end_mark app x → Fine app y → InsertingClosed app registration now x y → IsValid app y
  still_valid y are days mark fine inserting =
      let same = inserting_keeps app registration odometer now owed long x y (omega (arith, use_inside app, fits)) (inl (none, inserting)) in
      same_valid app x valid none are y days mark fine same.0 same.3

  shut_told : (y : List ℕ) → book_of app y ≡ book_of app x → is_open (mark_of (book_of app y)) (book_of app y).days ≡ false
  unfolding book_of
  shut_told y is = ap (λ (k : Book). is_open (mark_of k) k.days) is ∙ shut

  days_told : (y : List ℕ) → book_of app y ≡ book_of app x → card_days app y ≡ card_days app x
  unfolding book_of
  days_told y is = ap (λ (k : Book). k.days) is

  mark_is : (y : List ℕ) → book_of app y ≡ book_of app x → end_mark app y ≡ end_mark app x
  unfolding book_of
  mark_is y is = ap (λ (k : Book). mark_of k) is

  module _ (y : List ℕ) (still : IsStill app x y) where
    y_is : book_of app y ≡ book_of app x
    y_is = told_book app (book_of app x) x y still

    x_are : AreDays 0 (card_days app x)
    unfolding book_of
    x_are = subst (λ (ds : List Day). AreDays 0 ds) still.told.0 still.holds.ordered

    y_fine : Fine app y
    y_fine = card_fine app sound (IsBook (book_of app x)) x y fits still (strict_told app y (book_of app x) y_is (strict_book app x valid none x_are))

    y_fits : image_size_of app ≤ length y
    y_fits = omega (arith, fits, still.outside.same_length)

    module _ (z : List ℕ) (card : IsShutting app y z) where
      z_is : book_of app z ≡ book_of app x
      z_is =
          told_book app (book_of app y) y z (record {
            outside = card.outside;
            holds = card.holds;
            points = card.points;
            told = closed_still app.activity (book_of app y) (shut_told y y_is) (book_of app z).days (book_of app z).vehicles card.told;
          })
          ∙ y_is

      z_fine : Fine app z
      z_fine = card_fine app sound (IsCloseMoment app.activity Rest (book_of app y)) y z y_fits card (strict_told app z (book_of app x) z_is (strict_book app x valid none x_are))

      z_room : place_of app (file 0x0507) + 19 ≤ length z
      z_room = omega (arith, use_inside app, y_fits, card.outside.same_length)

  pub closed_valid : (y : List ℕ) → InsertingClosed app registration now x y → IsValid app y
  closed_valid y (inl still) = still_valid y (x_are y still) (days_told y (y_is y still)) (mark_is y (y_is y still)) (y_fine y still) (inl still)
  closed_valid y (inr (x1, still, inl shutting)) =
      still_valid y (x_are x1 still) (days_told y (z_is x1 still y shutting)) (mark_is y (z_is x1 still y shutting)) (z_fine x1 still y shutting) (inr (x1, still, inl shutting))
  closed_valid y (inr (x1, still, inr (x2, done, opening))) =
      let card : IsShutting app x1 x2 = record { outside = done.outside; holds = done.holds; points = done.points; told = inr done.told } in
      let side = opening_same app registration now long x2 y (z_room x1 still x2 card) opening in
      still_valid y (x_are x1 still)
      (days_same app x2 y side.0 ∙ days_told x2 (z_is x1 still x2 card))
      (mark_beside app sound x2 y side.0 side.1 done.points ∙ mark_is x2 (z_is x1 still x2 card))
      (beside_fine app sound x2 y side.0 side.1 (z_fine x1 still x2 card))
      (inr (x1, still, inr (x2, done, opening)))
