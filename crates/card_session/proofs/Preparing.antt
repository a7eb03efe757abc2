-- What a part of a keep asks of a book, once the part before it is done, and what an entry leaves.
use Rattle.std.proofs.Common.{◌≡◌, ◌≢◌, ℕ, suc, ◌+◌, ◌-◌, ◌*◌, ◌/◌, ◌%◌, ◌<◌, ◌≤◌, Bool, true, false, cond, not, Option, Some, None, List, [], ◌∷◌, ◌++◌, length, refl, sym, ◌∙◌, ap, subst, inl, inr, ⊎_elim, arith, option_map}
use Rattle.std.specs.Prelude.{nat_eq, nat_lt, ◌&&◌, ◌⊎◌}
use Rattle.std.proofs.lemmas.Bool.{eqb-true, and_parts, ltb-true}
use Rattle.activity_codec.specs.declared.values.Activity.TheVariants.{Rest}
use Rattle.activity_codec.specs.declared.entries.Entry.{Entry}
use Rattle.activity_codec.specs.Words.{word_minute, word_absent}
use Rattle.tacho_types.specs.declared.texts.Registration.{Registration}
use Rattle.card_days.specs.card_model.Days.{Day, AreDays, last_word}
use Rattle.card_days.specs.card_model.Changes.{OnNewest, TakesWord, Remain, fitting, with_newest, with_word, new_day, date_of, AreStrict}
use Rattle.card_days.proofs.card_model.Retention.{remain_some, remain_fitting}
use Rattle.card_validity.specs.card_retention.Expected.{is_newest}
use Rattle.card_validity.specs.card_retention.Shown.{sizes, is_open}
use Rattle.card_validity.specs.card_retention.Entries.{EndsBy, newest_word}
use Rattle.card_validity.proofs.card_retention.Entering.{last_append, date_newest}
use Rattle.card_validity.proofs.card_retention.Stops.{are_left}
use Rattle.card_days.proofs.Lists.{longer_day}
use Rattle.card_files.specs.declared.vehicle.Vehicle.{Vehicle}
use Rattle.card_session.specs.Vehicles.{Vehicles, with_vehicle, on_newest, last_use_in}
use Rattle.card_session.specs.Books.{Book, mark_of, latest_of, closing_word, with_change, entry_word, bare_word, day_words, tells_state, entered_days, with_new_day, travelled, goes_on_in, used_until, begun_vehicle, vehicle_counter, vehicles_with, goes_on_with}
use Rattle.card_session.specs.Sessions.{EndsStrictly, IsOpenBook, newest_in}
use Rattle.card_session.specs.Moments.{IsBeforeGap, entry_len, is_told}
use Rattle.card_session.specs.Parts.{TakesSome, with_some, IsAdding, IsBeforeGapOf, with_gap_closed, IsClosingGap, IsBeforeEntry, with_entry_words, IsWriting, BeginsDay, with_day, IsBeforeDay, HasDay, entered}
use Rattle.card_session.proofs.Composing.{book_is}
use Rattle.card_session.proofs.Following.{closing_minute, entry_minute, takes_closing, takes_entry, begins_day, words_strict}

-- ---- a word more on the newest day

pub strict_with : (w : ℕ) (ds : List Day) → OnNewest (TakesWord w) ds → EndsStrictly (with_newest (with_word w) ds)
strict_with w [] takes = absurd takes
strict_with w (d ∷ []) takes = takes
strict_with w (d ∷ e ∷ []) takes = takes
strict_with w (d ∷ e ∷ f ∷ ds) takes = strict_with w (e ∷ f ∷ ds) takes

pub newest_with : (w m : ℕ) (ds : List Day) → OnNewest (λ d. d.date / 60 + word_minute w ≡ m) ds → newest_word (with_newest (with_word w) ds) ≡ m
newest_with w m [] on = absurd on
newest_with w m (d ∷ []) on = ap (λ (v : ℕ). d.date / 60 + word_minute v) (last_append d.words w) ∙ on
newest_with w m (d ∷ e ∷ []) on = ap (λ (v : ℕ). e.date / 60 + word_minute v) (last_append e.words w) ∙ on
newest_with w m (d ∷ e ∷ f ∷ ds) on = newest_with w m (e ∷ f ∷ ds) on

-- the day of the minute after the mark, of an open book
pub open_date : (mark : ℕ) (ds : List Day) → is_open mark ds ≡ true → OnNewest (λ d. d.date ≡ date_of (suc mark)) ds
open_date mark [] is = absurd (cc)
open_date mark (d ∷ []) is = eqb-true d.date (date_of (suc mark)) (and_parts (nat_eq d.date (date_of (suc mark))) (not (word_absent (last_word d.words))) is).0
open_date mark (d ∷ e ∷ ds) is = open_date mark (e ∷ ds) is

pub on_as : (P Q : Day → Type 0) (ds : List Day) → ((d : Day) → P d → Q d) → OnNewest P ds → OnNewest Q ds
on_as P Q [] weaker on = absurd on
on_as P Q (d ∷ []) weaker on = weaker d on
on_as P Q (d ∷ e ∷ ds) weaker on = on_as P Q (e ∷ ds) weaker on

-- the days with it are days
pub are_with : (w date : ℕ) (ds : List Day) → AreDays date ds → OnNewest (TakesWord w) ds → AreDays date (with_newest (with_word w) ds)
are_with w date [] are takes = absurd takes
are_with w date (d ∷ []) are takes = (are.0, longer_day w d are.1 takes, tt)
are_with w date (d ∷ e ∷ ds) are takes = (are.0, are.1, are_with w d.date (e ∷ ds) are.2 takes)

-- no word behind a minute is the latest, where none stands there
pub ends_by : (m : ℕ) (ds : List Day) → newest_word ds ≤ m → EndsBy m ds
ends_by m [] low = tt
ends_by m (d ∷ []) low = λ entry. low
ends_by m (d ∷ e ∷ ds) low = ends_by m (e ∷ ds) low

-- ---- a day more

newest_append : (ds : List Day) (d : Day) → newest_word (ds ++ d ∷ []) ≡ d.date / 60 + word_minute (last_word d.words)
newest_append [] d = refl
newest_append (e ∷ []) d = refl
newest_append (e ∷ f ∷ ds) d = newest_append (f ∷ ds) d

strict_append : (ds : List Day) (d : Day) → AreStrict d.words → EndsStrictly (ds ++ d ∷ [])
strict_append [] d strict = strict
strict_append (e ∷ []) d strict = strict
strict_append (e ∷ f ∷ ds) d strict = strict_append (f ∷ ds) d strict

last_of_day : (e : Entry) → last_word (day_words e) ≡ entry_word e
last_of_day e = by (nat_eq (e.minute % 1440) 0)
  where
    by : (b : Bool) → last_word (cond b (entry_word e ∷ []) (bare_word ∷ entry_word e ∷ [])) ≡ entry_word e
    by true = refl
    by false = refl

-- ---- another distance

newest_km : (more : ℕ) (ds : List Day) → newest_word (travelled more ds) ≡ newest_word ds
newest_km more [] = refl
newest_km more (d ∷ []) = refl
newest_km more (d ∷ e ∷ []) = refl
newest_km more (d ∷ e ∷ f ∷ ds) = newest_km more (e ∷ f ∷ ds)

strict_km : (more : ℕ) (ds : List Day) → EndsStrictly ds → EndsStrictly (travelled more ds)
strict_km more [] strict = tt
strict_km more (d ∷ []) strict = strict
strict_km more (d ∷ e ∷ []) strict = strict
strict_km more (d ∷ e ∷ f ∷ ds) strict = strict_km more (e ∷ f ∷ ds) strict

module _ (size : ℕ) (long : 5544 ≤ size) where
  -- ---- the closing word of a gap

  module _ (b : Book) (are : AreDays 0 b.days) (minute : ℕ) (before : IsBeforeGapOf minute b) where
    abbrev gap : Bool
    gap = is_open (mark_of b) b.days && nat_lt (suc (mark_of b)) minute

    abbrev closing : ℕ
    closing = closing_word (suc (mark_of b)) Rest (latest_of b.days)

    gap_takes : gap ≡ true → OnNewest (TakesWord closing) b.days
    gap_takes is = takes_closing (mark_of b) Rest b.days before.0.ends before.0.strict (and_parts (is_open (mark_of b) b.days) (nat_lt (suc (mark_of b)) minute) is).0

    pub gap_asks : (word : Option ℕ) → word ≡ cond gap (Some closing) None → TakesSome word b
    gap_asks word is = subst (λ (o : Option ℕ). TakesSome o b) (sym is) (by gap refl)
      where
        by : (g : Bool) → gap ≡ g → TakesSome (cond g (Some closing) None) b
        by true is = gap_takes is
        by false is = tt

    pub gap_makes : (word : Option ℕ) → word ≡ cond gap (Some closing) None → with_some size word b ≡ with_gap_closed size minute b
    gap_makes word is = ap (λ (o : Option ℕ). with_some size o b) is ∙ by gap
      where
        by : (g : Bool) → with_some size (cond g (Some closing) None) b ≡ (let c : Book = record { days = cond g (with_newest (with_word closing) (fitting (size - 2) b.days)) b.days; vehicles = b.vehicles } in c)
        by true = refl
        by false = sym (book_is b b.days b.vehicles refl refl)

    pub gap_moments : (word : Option ℕ) → word ≡ cond gap (Some closing) None → (ds : List Day) (v : Vehicles) → IsAdding size word b ds v → IsClosingGap size minute b ds v
    gap_moments word is ds v adding = by gap refl (subst (λ (o : Option ℕ). IsAdding size o b ds v) is adding)
      where
        by : (g : Bool) → gap ≡ g → IsAdding size (cond g (Some closing) None) b ds v
            → (IsBeforeGap size (mark_of b) minute b.days ds ⊎ (ds ≡ cond g (with_newest (with_word closing) (fitting (size - 2) b.days)) b.days)) × (v ≡ b.vehicles)
        by true is adding =
            let both = and_parts (is_open (mark_of b) b.days) (nat_lt (suc (mark_of b)) minute) is in
            (⊎_elim (λ left. inl (inr (both.0, ltb-true (suc (mark_of b)) minute both.1, left))) (λ done. inr done) adding.0, adding.1)
        by false is adding = (inl (inl adding.0), adding.1)

    -- the days are days
    pub gap_are : AreDays 0 (with_gap_closed size minute b).days
    gap_are = by gap refl
      where
        by : (g : Bool) → gap ≡ g → AreDays 0 (cond g (with_newest (with_word closing) (fitting (size - 2) b.days)) b.days)
        by true is =
            are_with closing 0 (fitting (size - 2) b.days) (are_left (size - 2) b.days (fitting (size - 2) b.days) (remain_fitting (size - 2) b.days) are)
            (remain_some (TakesWord closing) (size - 2) 0 b.days (fitting (size - 2) b.days) (omega (arith, long)) are (remain_fitting (size - 2) b.days) (gap_takes is))
        by false is = are

    -- then an entry's words may be written
    pub gap_ready : (e : Entry) → e.minute ≡ minute → IsBeforeEntry e (with_gap_closed size minute b)
    gap_ready e at = by gap refl
      where
        by : (g : Bool) → gap ≡ g → EndsStrictly (cond g (with_newest (with_word closing) (fitting (size - 2) b.days)) b.days) × (newest_word (cond g (with_newest (with_word closing) (fitting (size - 2) b.days)) b.days) < e.minute)
        by true is =
            let both = and_parts (is_open (mark_of b) b.days) (nat_lt (suc (mark_of b)) minute) is in
            let takes : OnNewest (TakesWord closing) (fitting (size - 2) b.days) = remain_some (TakesWord closing) (size - 2) 0 b.days (fitting (size - 2) b.days) (omega (arith, long)) are (remain_fitting (size - 2) b.days) (gap_takes is) in
            let dated : OnNewest (λ d. d.date ≡ date_of (suc (mark_of b))) (fitting (size - 2) b.days) = remain_some (λ d. d.date ≡ date_of (suc (mark_of b))) (size - 2) 0 b.days (fitting (size - 2) b.days) (omega (arith, long)) are (remain_fitting (size - 2) b.days) (open_date (mark_of b) b.days both.0) in
            let word : newest_word (with_newest (with_word closing) (fitting (size - 2) b.days)) ≡ suc (mark_of b) = newest_with closing (suc (mark_of b)) (fitting (size - 2) b.days) (on_as (λ d. d.date ≡ date_of (suc (mark_of b))) (λ d. d.date / 60 + word_minute closing ≡ suc (mark_of b)) (fitting (size - 2) b.days) (λ d is. omega (arith, is, closing_minute (suc (mark_of b)) Rest (latest_of b.days))) dated) in
            (strict_with closing (fitting (size - 2) b.days) takes, omega (arith, word, ltb-true (suc (mark_of b)) minute both.1, at))
        by false is = (before.0.strict, omega (arith, before.1, at))

  -- ---- the words of an entry

  module _ (b : Book) (are : AreDays 0 b.days) (e : Entry) (before : IsBeforeEntry e b) where
    module _ (newest : is_newest (e.minute / 1440) (sizes b.days) ≡ true) where
      pub change_asks : (word : Option ℕ) → word ≡ cond (tells_state e b.days) None (Some (entry_word e)) → TakesSome word b
      change_asks word is = subst (λ (o : Option ℕ). TakesSome o b) (sym is) (by (tells_state e b.days))
        where
          by : (t : Bool) → TakesSome (cond t None (Some (entry_word e))) b
          by true = tt
          by false = takes_entry 0 e b.days are before.0 newest before.1

      in_newest : entered_days size e b.days ≡ cond (tells_state e b.days) b.days (with_change size (entry_word e) b.days)
      in_newest = ap (λ (n : Bool). cond n (cond (tells_state e b.days) b.days (with_change size (entry_word e) b.days)) (with_new_day size e b.days)) newest

      pub change_makes : (word : Option ℕ) → word ≡ cond (tells_state e b.days) None (Some (entry_word e)) → with_some size word b ≡ with_entry_words size e b
      change_makes word is = ap (λ (o : Option ℕ). with_some size o b) is ∙ by (tells_state e b.days) ∙ ap (λ (l : List Day). let c : Book = record { days = l; vehicles = b.vehicles } in c) (sym in_newest)
        where
          by : (t : Bool) → with_some size (cond t None (Some (entry_word e))) b ≡ (let c : Book = record { days = cond t b.days (with_change size (entry_word e) b.days); vehicles = b.vehicles } in c)
          by true = sym (book_is b b.days b.vehicles refl refl)
          by false = refl

      pub change_moments : (word : Option ℕ) → word ≡ cond (tells_state e b.days) None (Some (entry_word e)) → (ds : List Day) (v : Vehicles) → IsAdding size word b ds v → IsWriting size e b ds v
      change_moments word is ds v adding =
          let done = by (tells_state e b.days) refl (subst (λ (o : Option ℕ). IsAdding size o b ds v) is adding) in
          (⊎_elim (λ left. inl (⊎_elim (λ same. inl same) (λ gone. inr (untold gone.0, subst (λ (n : ℕ). Remain (size - n) b.days ds) (sym two) gone.1)) left)) (λ last. inr (last ∙ sym in_newest)) done.0, done.1)
        where
          two : entry_len e b.days ≡ 2
          two = ap (λ (n : Bool). cond n 2 (12 + 2 * length (day_words e))) newest

          untold : tells_state e b.days ≡ false → is_told e b.days ≡ false
          untold not_told = ap (λ (n : Bool). n && tells_state e b.days) newest ∙ not_told

          by : (told : Bool) → tells_state e b.days ≡ told → IsAdding size (cond told None (Some (entry_word e))) b ds v
              → (((ds ≡ b.days) ⊎ ((tells_state e b.days ≡ false) × Remain (size - 2) b.days ds)) ⊎ (ds ≡ cond told b.days (with_change size (entry_word e) b.days))) × (v ≡ b.vehicles)
          by true told_is adding = (inl (inl adding.0), adding.1)
          by false told_is adding = (⊎_elim (λ left. inl (inr (told_is, left))) (λ last. inr last) adding.0, adding.1)

    module _ (other : is_newest (e.minute / 1440) (sizes b.days) ≡ false) (some : 1440 ≤ e.minute) where
      pub day_asks : BeginsDay e b
      day_asks = begins_day e b.days some are other before.1

      new_is : entered_days size e b.days ≡ with_new_day size e b.days
      new_is = ap (λ (n : Bool). cond n (cond (tells_state e b.days) b.days (with_change size (entry_word e) b.days)) (with_new_day size e b.days)) other

      pub day_makes : with_day size e b ≡ with_entry_words size e b
      day_makes = ap (λ (l : List Day). let c : Book = record { days = l; vehicles = b.vehicles } in c) (sym new_is)

      pub day_moments : (ds : List Day) (v : Vehicles) → IsBeforeDay size e b ds v → IsWriting size e b ds v
      day_moments ds v is = (⊎_elim (λ left. inl (inr (ap (λ (n : Bool). n && tells_state e b.days) other, subst (λ (n : ℕ). Remain (size - n) b.days ds) (sym len) left))) (λ done. inr (done ∙ sym new_is)) is.0, is.1)
        where
          len : entry_len e b.days ≡ 12 + 2 * length (day_words e)
          len = ap (λ (n : Bool). cond n 2 (12 + 2 * length (day_words e))) other

    -- then its minute is the newest, and a word may follow
    pub words_last : (newest_word (with_entry_words size e b).days ≤ e.minute) × EndsStrictly (with_entry_words size e b).days
    words_last = by (is_newest (e.minute / 1440) (sizes b.days)) (tells_state e b.days) refl
      where
        by : (n told : Bool) → is_newest (e.minute / 1440) (sizes b.days) ≡ n
            → (newest_word (cond n (cond told b.days (with_change size (entry_word e) b.days)) (with_new_day size e b.days)) ≤ e.minute) × EndsStrictly (cond n (cond told b.days (with_change size (entry_word e) b.days)) (with_new_day size e b.days))
        by true true is = (omega (arith, before.1), before.0)
        by true false is =
            let takes : OnNewest (TakesWord (entry_word e)) (fitting (size - 2) b.days) = remain_some (TakesWord (entry_word e)) (size - 2) 0 b.days (fitting (size - 2) b.days) (omega (arith, long)) are (remain_fitting (size - 2) b.days) (takes_entry 0 e b.days are before.0 is before.1) in
            let dated : OnNewest (λ d. d.date ≡ e.minute / 1440 * 86400) (fitting (size - 2) b.days) = remain_some (λ d. d.date ≡ e.minute / 1440 * 86400) (size - 2) 0 b.days (fitting (size - 2) b.days) (omega (arith, long)) are (remain_fitting (size - 2) b.days) (date_newest (e.minute / 1440) 0 b.days are is) in
            let word : newest_word (with_newest (with_word (entry_word e)) (fitting (size - 2) b.days)) ≡ e.minute = newest_with (entry_word e) e.minute (fitting (size - 2) b.days) (on_as (λ d. d.date ≡ e.minute / 1440 * 86400) (λ d. d.date / 60 + word_minute (entry_word e) ≡ e.minute) (fitting (size - 2) b.days) (λ d at. omega (arith, at, entry_minute e)) dated) in
            (omega (arith, word), strict_with (entry_word e) (fitting (size - 2) b.days) takes)
        by false told is =
            let day : Day = new_day b.days (date_of e.minute) (day_words e) in
            let word : newest_word (with_new_day size e b.days) ≡ e.minute =
            newest_append (fitting (size - (12 + 2 * length (day_words e))) b.days) day
            ∙ ap (λ (w : ℕ). date_of e.minute / 60 + word_minute w) (last_of_day e)
            ∙ omega (arith, entry_minute e) in
            (omega (arith, word), strict_append (fitting (size - (12 + 2 * length (day_words e))) b.days) day (words_strict e))

    -- and there is a day
    pub words_ready : HasDay (with_entry_words size e b)
    words_ready = by (is_newest (e.minute / 1440) (sizes b.days)) refl (tells_state e b.days)
      where
        some_append : (ds : List Day) (d : Day) → ds ++ d ∷ [] ≢ []
        some_append [] d is = cc
        some_append (f ∷ ds) d is = cc

        some_day : (ds : List Day) → is_newest (e.minute / 1440) (sizes ds) ≡ true → ds ≢ []
        some_day [] newest is = absurd (cc)
        some_day (d ∷ ds) newest is = cc

        some_word : (w : ℕ) (ds : List Day) → OnNewest (λ d. Unit {0}) ds → with_newest (with_word w) ds ≢ []
        some_word w [] on is = on
        some_word w (d ∷ []) on is = cc
        some_word w (d ∷ f ∷ ds) on is = cc

        on_day : (ds : List Day) → ds ≢ [] → OnNewest (λ d. Unit {0}) ds
        on_day [] some = absurd (some refl)
        on_day (d ∷ []) some = tt
        on_day (d ∷ f ∷ ds) some = on_day (f ∷ ds) (λ is. cc)

        by : (n : Bool) → is_newest (e.minute / 1440) (sizes b.days) ≡ n → (told : Bool) → cond n (cond told b.days (with_change size (entry_word e) b.days)) (with_new_day size e b.days) ≢ []
        by true is true = some_day b.days is
        by true is false = some_word (entry_word e) (fitting (size - 2) b.days) (remain_some (λ d. Unit {0}) (size - 2) 0 b.days (fitting (size - 2) b.days) (omega (arith, long)) are (remain_fitting (size - 2) b.days) (on_day b.days (some_day b.days is)))
        by false is told = some_append (fitting (size - (12 + 2 * length (day_words e))) b.days) (new_day b.days (date_of e.minute) (day_words e))

-- the last use of one of two
use_either : (g : Bool) (v w : Vehicles) (n : ℕ) → last_use_in v ≡ n → last_use_in w ≡ n → last_use_in (cond g v w) ≡ n
use_either true v w n one two = one
use_either false v w n one two = two

-- the last use, and the end mark, of the vehicle entries with a minute
pub use_at : (registration : Registration) (odometer minute : ℕ) (v : Vehicles) → last_use_in (vehicles_with registration odometer minute v) ≡ 60 * minute
use_at registration odometer minute v = by v.newest
  where
    by : (o : Option Vehicle)
        → last_use_in
        (cond (goes_on_with registration minute o) (let u : Vehicles = record { newest = option_map (used_until odometer (60 * minute)) o; ring = on_newest (used_until odometer (60 * minute)) v.ring } in u)
        (with_vehicle (begun_vehicle registration odometer minute (vehicle_counter o)) v))
        ≡ 60 * minute
    by None = refl
    by (Some u) =
        let going : Vehicles = record { newest = Some (used_until odometer (60 * minute) u); ring = on_newest (used_until odometer (60 * minute)) v.ring } in
        use_either (goes_on_in registration minute u) going (with_vehicle (begun_vehicle registration odometer minute (vehicle_counter (Some u))) v) (60 * minute) refl refl

pub used_at : (registration : Registration) (odometer minute : ℕ) (v : Vehicles) → last_use_in (vehicles_with registration odometer minute v) / 60 ≡ minute
used_at registration odometer minute v = let seconds = use_at registration odometer minute v in omega (arith, seconds)

-- AN ENTRY, whole: its minute is the newest one and the end mark, and a word may follow
pub entry_last : (size : ℕ) → 5544 ≤ size → (registration : Registration) (odometer more : ℕ) (e : Entry) (b : Book) → AreDays 0 b.days → IsBeforeGapOf e.minute b
    → IsOpenBook (entered size registration odometer more e b) × (newest_in (entered size registration odometer more e b) ≡ e.minute) × (mark_of (entered size registration odometer more e b) ≡ e.minute)
entry_last size long registration odometer more e b are before =
    let g : Book = with_gap_closed size e.minute b in
    let last = words_last size long g (gap_are size long b are e.minute before) e (gap_ready size long b are e.minute before e refl) in
    let mark = used_at registration odometer e.minute b.vehicles in
    let word : newest_word (entered size registration odometer more e b).days ≤ e.minute = omega (arith, newest_km more (entered_days size e g.days), last.0) in (
      record { ends = ends_by (mark_of (entered size registration odometer more e b)) (entered size registration odometer more e b).days (omega (arith, word, mark)); strict = strict_km more (entered_days size e g.days) last.1 },
      omega (arith, word, mark),
      mark,
    )
