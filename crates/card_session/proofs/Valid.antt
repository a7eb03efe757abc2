-- A valid card is valid at each moment of a keep or of a withdrawal that leaves its session open.
use Rattle.std.proofs.Common.{◌≡◌, inl, inr, ⊎_elim, ℕ, suc, ◌+◌, ◌-◌, ◌*◌, ◌/◌, ◌%◌, ◌<◌, ◌≤◌, Bool, true, false, cond, Option, Some, None, option_map, List, [], ◌∷◌, ◌++◌, length, refl, sym, ◌∙◌, ap, subst, arith}
use Rattle.std.specs.Prelude.{nat_eq, nat_lt}
use Rattle.std.proofs.lemmas.Bool.{lt-ltb, ltb-true}
use Rattle.std.proofs.lemmas.Bool.Decides.{nat_tests}
use Rattle.std.proofs.lemmas.List.{append-nil}
use Rattle.card_layout.specs.Images.{big_number}
use Rattle.activity_codec.specs.declared.values.Activity.{Activity}
use Rattle.activity_codec.specs.declared.entries.Entry.{Entry}
use Rattle.activity_codec.specs.Words.{word_minute}
use Rattle.tacho_types.specs.declared.texts.Registration.{Registration}
use Rattle.card_layout.specs.declared.files.Application.{Application}
use Rattle.card_layout.specs.declared.files.Fid.{Fid}
use Rattle.card_layout.specs.Application.{IsApplication, first_bad_field, place_of_field}
use Rattle.card_layout.specs.Files.{files_of, image_size_of}
use Rattle.gated_ring.specs.Ring.{pointer, PointsInside}
use Rattle.card_days.specs.card_model.Days.{Day, AreDays, AreWords, Ascend, len_of}
use Rattle.card_days.specs.card_model.Changes.{OnNewest, AreStrict, Increase, fitting, date_of, trimmed, TakesWord}
use Rattle.card_days.specs.card_model.Image.{oldest_pointer}
use Rattle.card_days.specs.card_model.Checks.{first_bad, first_failing, file_place}
use Rattle.card_days.proofs.card_model.Ascending.{early_words_all}
use Rattle.card_days.proofs.card_model.Judging.{holds_passes}
use Rattle.card_days.proofs.card_model.Retention.{remain_fitting, remain_some}
use Rattle.card_days.proofs.card_model.Trims.{are_trimmed}
use Rattle.card_validity.specs.card_retention.Shown.{sizes, is_open}
use Rattle.card_validity.specs.card_retention.Entries.{newest_word}
use Rattle.card_validity.proofs.card_retention.Flat.{UpTo, flat_newest}
use Rattle.card_validity.specs.card_image.Fields.{file_bytes, day_string, vehicle_ring, place_ring, card_days, end_mark, session_time}
use Rattle.card_validity.specs.card_image.Beside.{HaveSameSizes, HaveSamePlacePointer}
use Rattle.card_validity.specs.card_image.Judging.{file_check, first_bad_of, first_bad_file, pointer_bad, word_checks, words_behind_mark, days_placed, newest_rises, rising_checks, words_placed, IsValid}
use Rattle.card_session.specs.Vehicles.{Vehicles, last_use_in}
use Rattle.card_session.specs.Books.{Book, mark_of, latest_of, closing_word, with_change, closed_days, closed, last_used, with_entry}
use Rattle.card_session.specs.Sessions.{EndsStrictly, IsOpenBook, book_of}
use Rattle.card_session.specs.Moments.{IsBeforeMark, IsKeepMoment, IsCloseMoment}
use Rattle.card_session.specs.Cards.{IsCard}
use Rattle.card_session.specs.Parts.{IsBeforeGapOf}
use Rattle.card_session.proofs.OnCard.{ring_behind, ring_inside, string_shape}
use Rattle.card_session.proofs.Marks.{behind_vehicles, session_same, sizes_still, mark_told}
use Rattle.card_session.proofs.Following.{takes_closing, closing_minute}
use Rattle.card_session.proofs.Preparing.{entry_last, open_date, strict_with, newest_with, on_as}
use Rattle.card_session.proofs.OnMark.{begun_strict}
use Rattle.card_session.proofs.Surviving.{keep_survives_begun, closing_survives, strict_survives}
use Rattle.card_session.proofs.Stopping.{book_days, before_use, mark_moves}

-- ---- the words of the newest day rise

rising_more : (size oldest so_far date w : ℕ) (ws : List ℕ) → Increase (word_minute w) ws → first_failing (rising_checks (words_placed size oldest so_far date (w ∷ ws))) ≡ None
rising_more size oldest so_far date w [] up = refl
rising_more size oldest so_far date w (v ∷ ws) up =
    ap (λ (t : Bool). cond t (first_failing (rising_checks (words_placed size oldest (so_far + 2) date (v ∷ ws)))) (Some (file_place size oldest (so_far + 2)))) (lt-ltb (word_minute w) (word_minute v) up.0)
    ∙ rising_more size oldest (so_far + 2) date v ws up.2

pub strict_passes : (size oldest so_far : ℕ) (ds : List Day) → EndsStrictly ds → first_failing (newest_rises size oldest so_far ds) ≡ None
strict_passes size oldest so_far [] strict = refl
strict_passes size oldest so_far (d ∷ []) strict = by d.words strict
  where
    by : (ws : List ℕ) → AreStrict ws → first_failing (rising_checks (words_placed size oldest (so_far + 12) d.date ws)) ≡ None
    by [] are = absurd are
    by (w ∷ ws) are = rising_more size oldest (so_far + 12) d.date w ws (subst (λ (m : ℕ). Increase m ws) (sym are.0) are.1)
strict_passes size oldest so_far (d ∷ e ∷ ds) strict = strict_passes size oldest (so_far + len_of d) (e ∷ ds) strict

split_pass : (t : Bool) (rest : Option ℕ) (place : ℕ) → cond t rest (Some place) ≡ None → (t ≡ true) × (rest ≡ None)
split_pass true rest place is = (refl, is)
split_pass false rest place is = absurd (cc)

more_rising : (size oldest so_far date w : ℕ) (ws : List ℕ) → Ascend (word_minute w) ws → first_failing (rising_checks (words_placed size oldest so_far date (w ∷ ws))) ≡ None → Increase (word_minute w) ws
more_rising size oldest so_far date w [] up pass = tt
more_rising size oldest so_far date w (v ∷ ws) up pass =
    let both = split_pass (nat_lt (word_minute w) (word_minute v)) (first_failing (rising_checks (words_placed size oldest (so_far + 2) date (v ∷ ws)))) (file_place size oldest (so_far + 2)) pass in
    (ltb-true (word_minute w) (word_minute v) both.0, up.1, more_rising size oldest (so_far + 2) date v ws up.2 both.1)

pub passes_strict : (size oldest so_far date : ℕ) (ds : List Day) → AreDays date ds → first_failing (newest_rises size oldest so_far ds) ≡ None → EndsStrictly ds
passes_strict size oldest so_far date [] are pass = tt
passes_strict size oldest so_far date (d ∷ []) are pass = by d.words are.1.ordered pass
  where
    by : (ws : List ℕ) → AreWords ws → first_failing (rising_checks (words_placed size oldest (so_far + 12) d.date ws)) ≡ None → AreStrict ws
    by [] words pass = absurd words
    by (w ∷ ws) words pass = (words.0, subst (λ (m : ℕ). Increase m ws) words.0 (more_rising size oldest (so_far + 12) d.date w ws (subst (λ (m : ℕ). Ascend m ws) (sym words.0) words.1) pass))
passes_strict size oldest so_far date (d ∷ e ∷ ds) are pass = passes_strict size oldest (so_far + len_of d) d.date (e ∷ ds) are.2 pass

-- of an open session nothing else is asked of the words
pub words_open : (size oldest mark session : ℕ) (ds : List Day) → nat_eq session 0 ≡ false → first_failing (word_checks size oldest mark session ds) ≡ first_failing (newest_rises size oldest 0 (trimmed mark ds))
words_open size oldest mark session ds shut =
    ap (λ (t : Bool). first_failing (cond t (words_behind_mark mark (days_placed size oldest 0 ds)) [] ++ (newest_rises size oldest 0 (trimmed mark ds) ++ cond t (newest_rises size oldest 0 ds) []))) shut
    ∙ ap first_failing (append-nil (newest_rises size oldest 0 (trimmed mark ds)))

-- ---- the files

abbrev judged : (sizes days vehicles places words : Option ℕ) → Option (Fid × ℕ)
judged sizes days vehicles places words =
    first_bad_of (file_check 0x0501 sizes ∷ file_check 0x0504 days ∷ file_check 0x0505 vehicles ∷ file_check 0x0506 places ∷ file_check 0x0504 words ∷ [])

all_pass : (a b c d e : Option ℕ) → a ≡ None → b ≡ None → c ≡ None → d ≡ None → e ≡ None → judged a b c d e ≡ None
all_pass a b c d e ea eb ec ed ee =
    ap (λ (o : Option ℕ). judged o b c d e) ea ∙ ap (λ (o : Option ℕ). judged None o c d e) eb ∙ ap (λ (o : Option ℕ). judged None None o d e) ec
    ∙ ap (λ (o : Option ℕ). judged None None None o e) ed ∙ ap (λ (o : Option ℕ). judged None None None None o) ee

passes : (a b c d e : Option ℕ) → judged a b c d e ≡ None → (a ≡ None) × (d ≡ None) × (e ≡ None)
passes (Some p) b c d e is = absurd (cc)
passes None (Some p) c d e is = absurd (cc)
passes None None (Some p) d e is = absurd (cc)
passes None None None (Some p) e is = absurd (cc)
passes None None None None (Some p) is = absurd (cc)
passes None None None None None is = (refl, refl, refl)

abbrev pub words_of : Application → List ℕ → Option ℕ
words_of app x = first_failing (word_checks app.activity (oldest_pointer (day_string app) x) (end_mark app x) (session_time app x) (card_days app x))

told : (app : Application) (x : List ℕ) → first_bad_file app x
    ≡ judged (option_map place_of_field (first_bad_field (file_bytes app 0x0501 x))) (first_bad (day_string app) x) (pointer_bad (vehicle_ring app) x) (pointer_bad (place_ring app) x) (words_of app x)
unfolding first_bad_file
told app x = refl

module _ (app : Application) (x : List ℕ) (valid : IsValid app x) where
  parts : (option_map place_of_field (first_bad_field (file_bytes app 0x0501 x)) ≡ None) × (pointer_bad (place_ring app) x ≡ None) × (words_of app x ≡ None)
  parts =
      passes (option_map place_of_field (first_bad_field (file_bytes app 0x0501 x))) (first_bad (day_string app) x) (pointer_bad (vehicle_ring app) x) (pointer_bad (place_ring app) x) (words_of app x)
      (sym (told app x) ∙ valid)

  pub valid_words : words_of app x ≡ None
  valid_words = parts.2

  -- the words of the newest day up to the mark
  pub valid_strict : AreDays 0 (card_days app x) → nat_eq (session_time app x) 0 ≡ false → EndsStrictly (trimmed (end_mark app x) (card_days app x))
  valid_strict are open_ =
      passes_strict app.activity (oldest_pointer (day_string app) x) 0 0 (trimmed (end_mark app x) (card_days app x)) (are_trimmed (end_mark app x) 0 (card_days app x) are)
      (sym (words_open app.activity (oldest_pointer (day_string app) x) (end_mark app x) (session_time app x) (card_days app x) open_) ∙ parts.2)

  -- another with the same sizes, and the same pointer of places
  pub valid_by : (y : List ℕ) → HaveSameSizes app x y → HaveSamePlacePointer app x y → first_bad (day_string app) y ≡ None → PointsInside (vehicle_ring app) y → words_of app y ≡ None → IsValid app y
  valid_by y sizes places days points words =
      told app y
      ∙ all_pass (option_map place_of_field (first_bad_field (file_bytes app 0x0501 y))) (first_bad (day_string app) y) (pointer_bad (vehicle_ring app) y) (pointer_bad (place_ring app) y) (words_of app y)
      (ap (λ (l : List ℕ). option_map place_of_field (first_bad_field l)) sizes ∙ parts.0)
      days
      (ap (λ (t : Bool). cond t None (Some 0)) (lt-ltb (pointer (vehicle_ring app) y) (vehicle_ring app).count points))
      (ap (λ (l : List ℕ). cond (nat_lt (big_number 1 l) app.places) None (Some 0)) places ∙ parts.1)
      words

  module _ (sound : IsApplication app) (fits : image_size_of app ≤ length x) (y : List ℕ) (P : List Day → Vehicles → Type 0) (card : IsCard app P x y) where
    pub places_still : HaveSamePlacePointer app x y
    unfolding files_of
    places_still = behind_vehicles app P x y card (place_ring app).base (place_ring app).pointer_width (omega arith)

    pub valid_open : nat_eq (session_time app x) 0 ≡ false → EndsStrictly (trimmed (end_mark app y) (card_days app y)) → IsValid app y
    valid_open open_ strict =
        valid_by y (sizes_still app P x y card) places_still
        (holds_passes (day_string app) (string_shape app sound) y (omega (arith, card.outside.same_length, fits, ring_behind app, ring_inside app)) (book_of app y).days card.holds)
        card.points
        (words_open app.activity (oldest_pointer (day_string app) y) (end_mark app y) (session_time app y) (card_days app y) (ap (λ (n : ℕ). nat_eq n 0) (session_same app P x y card) ∙ open_)
        ∙ strict_passes app.activity (oldest_pointer (day_string app) y) 0 (trimmed (end_mark app y) (card_days app y)) strict)

-- ---- nothing stands behind the newest word

pub flat_of : (m date : ℕ) (ds : List Day) → AreDays date ds → newest_word ds ≤ m → trimmed m ds ≡ ds
flat_of m date [] are low = refl
flat_of m date (d ∷ ds) are low = flat_newest m date (d ∷ ds) are (up date d ds are low)
  where
    up : (date : ℕ) (d : Day) (ds : List Day) → AreDays date (d ∷ ds) → newest_word (d ∷ ds) ≤ m → OnNewest (UpTo m) (d ∷ ds)
    up date d [] are low = record {
      day = omega (arith, low, are.1.midnight);
      last = λ at. early_words_all (m % 1440) d.words are.1.ordered (omega (arith, low, at));
    }
    up date d (e ∷ ds) are low = up d.date e ds are.2 low

-- ---- at each moment of a keep, of its days

at_mark : (ds : List Day) (v : Vehicles) (m : ℕ) → last_use_in v / 60 ≡ m → EndsStrictly (trimmed m ds) → EndsStrictly (trimmed (last_use_in v / 60) ds)
at_mark ds v m is strict = subst (λ (n : ℕ). EndsStrictly (trimmed n ds)) (sym is) strict

module _ (size : ℕ) (long : 5544 ≤ size) (b : Book) (are : AreDays 0 b.days) (strict : EndsStrictly (trimmed (mark_of b) b.days)) (e : Entry) (before : IsBeforeGapOf e.minute b)
    (registration : Registration) (odometer more : ℕ) where
  abbrev after : Book
  after = with_entry size registration odometer more b e

  pub after_strict : AreDays 0 after.days → EndsStrictly (trimmed (mark_of after) after.days)
  after_strict ordered =
      let last = entry_last size long registration odometer more e b are before in
      subst EndsStrictly (sym (flat_of (mark_of after) 0 after.days ordered (omega (arith, last.1, last.2)))) last.0.strict

  before_strict : (kept : List Day) → IsBeforeMark size b after e kept → EndsStrictly (trimmed (mark_of b) kept)
  before_strict kept moment =
      keep_survives_begun size long b are (λ ds. EndsStrictly (trimmed (mark_of b) ds)) (λ ds. EndsStrictly (trimmed (mark_of b) ds)) (strict_survives (mark_of b)) strict e before
      (λ days d on strict. begun_strict (mark_of b) days d on) registration odometer more kept moment

  pub keep_strict : (ds : List Day) (v : Vehicles) → AreDays 0 ds → IsKeepMoment size registration odometer more e b ds v → EndsStrictly (trimmed (last_use_in v / 60) ds)
  keep_strict ds v ordered (inl old) = at_mark ds v (mark_of b) (ap (λ (o : Vehicles). last_use_in o / 60) old.0) (before_strict ds old.1)
  keep_strict ds v ordered (inr new) = ⊎_elim
      (λ unused. at_mark ds v (mark_of b) (before_use registration odometer e.minute b.vehicles v unused) (before_strict ds (inr (inr (inr new.0)))))
      (λ used.
      at_mark ds v (mark_of after) (ap (λ (o : Vehicles). last_use_in o / 60) used)
      (subst (λ (l : List Day). EndsStrictly (trimmed (mark_of after) l)) (sym new.0) (after_strict (subst (λ (l : List Day). AreDays 0 l) new.0 ordered))))
      new.1

-- ---- and of a closing word

module _ (size : ℕ) (long : 5544 ≤ size) (b : Book) (are : AreDays 0 b.days) (act : Activity) (may : IsOpenBook b) where
  abbrev marked : Book
  marked = record { days = closed_days size (mark_of b) act b.days; vehicles = last_used (60 * suc (mark_of b)) b.vehicles }

  abbrev v : ℕ
  v = closing_word (suc (mark_of b)) act (latest_of b.days)

  changed : is_open (mark_of b) b.days ≡ true → closed_days size (mark_of b) act b.days ≡ with_change size v b.days
  changed is = ap (λ (o : Bool). cond o (with_change size v b.days) b.days) is

  takes : is_open (mark_of b) b.days ≡ true → OnNewest (TakesWord v) (fitting (size - 2) b.days)
  takes is =
      remain_some (TakesWord v) (size - 2) 0 b.days (fitting (size - 2) b.days) (omega (arith, long)) are (remain_fitting (size - 2) b.days)
      (takes_closing (mark_of b) act b.days may.ends may.strict is)

  -- it stands at the minute after the end mark
  pub closing_at : is_open (mark_of b) b.days ≡ true → OnNewest (λ d. d.date / 60 + word_minute v ≡ suc (mark_of b)) (fitting (size - 2) b.days)
  closing_at is =
      on_as (λ d. d.date ≡ date_of (suc (mark_of b))) (λ d. d.date / 60 + word_minute v ≡ suc (mark_of b)) (fitting (size - 2) b.days) (λ d date. omega (arith, date, closing_minute (suc (mark_of b)) act (latest_of b.days)))
      (remain_some (λ d. d.date ≡ date_of (suc (mark_of b))) (size - 2) 0 b.days (fitting (size - 2) b.days) (omega (arith, long)) are (remain_fitting (size - 2) b.days)
      (open_date (mark_of b) b.days is))

  -- its minute is the newest then
  pub closing_newest : is_open (mark_of b) b.days ≡ true → newest_word (with_change size v b.days) ≡ suc (mark_of b)
  closing_newest is = newest_with v (suc (mark_of b)) (fitting (size - 2) b.days) (closing_at is)

  -- and the words rise
  pub closing_rises : is_open (mark_of b) b.days ≡ true → EndsStrictly (with_change size v b.days)
  closing_rises is = strict_with v (fitting (size - 2) b.days) (takes is)

  -- no word stands behind the end mark then, where none did
  pub closed_low : newest_word b.days ≤ mark_of b → newest_word (closed size act b).days ≤ mark_of (closed size act b)
  closed_low low = by (is_open (mark_of b) b.days) refl
    where
      by : (o : Bool) → is_open (mark_of b) b.days ≡ o → newest_word (cond o marked b).days ≤ mark_of (cond o marked b)
      by false is = low
      by true is = omega (arith, ap (λ (ds : List Day). newest_word ds) (changed is), closing_newest is, mark_moves b are is)

  module _ (strict : EndsStrictly (trimmed (mark_of b) b.days)) where
    closed_strict : AreDays 0 (closed size act b).days → EndsStrictly (trimmed (mark_of (closed size act b)) (closed size act b).days)
    closed_strict ordered = by (is_open (mark_of b) b.days) refl ordered
      where
        by : (o : Bool) → is_open (mark_of b) b.days ≡ o → AreDays 0 (cond o marked b).days → EndsStrictly (trimmed (mark_of (cond o marked b)) (cond o marked b).days)
        by false is ordered = strict
        by true is ordered =
            let at : mark_of marked ≡ suc (mark_of b) = mark_moves b are is in
            subst (λ (n : ℕ). EndsStrictly (trimmed n marked.days)) (sym at)
            (subst (λ (ds : List Day). EndsStrictly (trimmed (suc (mark_of b)) ds)) (sym (changed is))
            (subst EndsStrictly (sym (flat_of (suc (mark_of b)) 0 (with_change size v b.days) (subst (λ (ds : List Day). AreDays 0 ds) (changed is) ordered) (omega (arith, closing_newest is)))) (closing_rises is)))

    pub close_strict : (ds : List Day) (o : Vehicles) → AreDays 0 ds → IsCloseMoment size act b ds o → EndsStrictly (trimmed (last_use_in o / 60) ds)
    close_strict ds o ordered (inl old) =
        at_mark ds o (mark_of b) (ap (λ (u : Vehicles). last_use_in u / 60) old.0)
        (closing_survives size long b are (λ ds. EndsStrictly (trimmed (mark_of b) ds)) (λ ds. EndsStrictly (trimmed (mark_of b) ds)) (strict_survives (mark_of b)) strict act ds old.1)
    close_strict ds o ordered (inr book) =
        at_mark ds o (mark_of (closed size act b)) (ap (λ (u : Vehicles). last_use_in u / 60) book.1)
        (subst (λ (l : List Day). EndsStrictly (trimmed (mark_of (closed size act b)) l)) (sym book.0) (closed_strict (subst (λ (l : List Day). AreDays 0 l) book.0 ordered)))

-- ---- at each moment

pub above_zero : (n : ℕ) → 0 < n → nat_eq n 0 ≡ false
above_zero n some = grind (arith, nat_tests)

module _ (app : Application) (sound : IsApplication app) (x : List ℕ) (fits : image_size_of app ≤ length x) (valid : IsValid app x) (session : 0 < session_time app x) (ordered : AreDays 0 (book_of app x).days) where
  abbrev b : Book
  b = book_of app x

  open_session : nat_eq (session_time app x) 0 ≡ false
  open_session = above_zero (session_time app x) session

  strict_there : EndsStrictly (trimmed (mark_of b) b.days)
  strict_there =
      subst (λ (ds : List Day). EndsStrictly (trimmed (mark_of b) ds)) (sym (book_days app x))
      (subst (λ (n : ℕ). EndsStrictly (trimmed n (card_days app x))) (mark_told app x)
      (valid_strict app x valid (subst (λ (ds : List Day). AreDays 0 ds) (book_days app x) ordered) open_session))

  -- on the image that is left
  strict_at : (y : List ℕ) (m : ℕ) → end_mark app y ≡ m → EndsStrictly (trimmed m (book_of app y).days) → EndsStrictly (trimmed (end_mark app y) (card_days app y))
  strict_at y m at strict =
      subst (λ (ds : List Day). EndsStrictly (trimmed (end_mark app y) ds)) (book_days app y) (subst (λ (n : ℕ). EndsStrictly (trimmed n (book_of app y).days)) (sym at) strict)

  pub keep_valid : (registration : Registration) (odometer more : ℕ) (e : Entry) (y : List ℕ) → IsBeforeGapOf e.minute (book_of app x)
      → IsCard app (IsKeepMoment app.activity registration odometer more e (book_of app x)) x y → IsValid app y
  keep_valid registration odometer more e y before card =
      valid_open app x valid sound fits y (IsKeepMoment app.activity registration odometer more e b) card open_session
      (strict_at y (last_use_in (book_of app y).vehicles / 60) (mark_told app y)
      (keep_strict app.activity sound.string_least b ordered strict_there e before registration odometer more (book_of app y).days (book_of app y).vehicles card.holds.ordered card.told))

  pub close_valid : (act : Activity) (y : List ℕ) → IsOpenBook (book_of app x) → IsCard app (IsCloseMoment app.activity act (book_of app x)) x y → IsValid app y
  close_valid act y may card =
      valid_open app x valid sound fits y (IsCloseMoment app.activity act b) card open_session
      (strict_at y (last_use_in (book_of app y).vehicles / 60) (mark_told app y)
      (close_strict app.activity sound.string_least b ordered act may strict_there (book_of app y).days (book_of app y).vehicles card.holds.ordered card.told))
