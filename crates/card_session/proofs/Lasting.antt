-- What a keep makes of the days is an entry's own words behind the closing word of a gap, so that the stated overwriting goes on.
use Rattle.std.proofs.Common.{◌≡◌, ℕ, ◌/◌, ◌%◌, Bool, true, false, cond, List, [], ◌∷◌, length, refl, ◌∙◌, ap, arith}
use Rattle.std.specs.Prelude.{nat_eq}
use Rattle.std.proofs.lemmas.Bool.{eqb-true, eqb-false}
use Rattle.activity_codec.specs.declared.entries.Entry.{Entry}
use Rattle.activity_codec.specs.Words.{word_minute}
use Rattle.card_days.specs.card_model.Days.{Day, AreDays, last_word}
use Rattle.card_validity.specs.card_retention.Expected.{is_newest, first_words}
use Rattle.card_validity.specs.card_retention.Shown.{sizes, Tells, Entered, Entered.Same, Entered.Word, Entered.Begun}
use Rattle.card_session.specs.Books.{entry_word, bare_word, day_words, tells_state, with_change, with_new_day, entered_days}
use Rattle.card_session.proofs.Following.{entry_top, entry_minute}

-- the newest day tells an entry's state
tells_on : (e : Entry) (date : ℕ) (days : List Day) → AreDays date days → is_newest (e.minute / 1440) (sizes days) ≡ true → tells_state e days ≡ true → Tells e days
tells_on e date [] are newest told = absurd (cc)
tells_on e date (d ∷ []) are newest told =
    let day : d.date / 86400 ≡ e.minute / 1440 = eqb-true _ _ newest in
    record { date = omega (arith, day, are.1.midnight); state = eqb-true _ _ told }
tells_on e date (d ∷ f ∷ ds) are newest told = tells_on e d.date (f ∷ ds) are.2 newest told

tells_not : (e : Entry) (days : List Day) → tells_state e days ≡ false → Tells e days → ⊥
tells_not e [] told tells = tells
tells_not e (d ∷ []) told tells = eqb-false _ _ told tells.state
tells_not e (d ∷ f ∷ ds) told tells = tells_not e (f ∷ ds) told tells

-- the words that begin a day
day_count : (e : Entry) → length (day_words e) ≡ first_words e.minute
day_count e = by (nat_eq (e.minute % 1440) 0)
  where
    by : (b : Bool) → length (cond b (entry_word e ∷ []) (bare_word ∷ entry_word e ∷ [])) ≡ cond b 1 2
    by true = refl
    by false = refl

day_last : (e : Entry) → last_word (day_words e) ≡ entry_word e
day_last e = by (nat_eq (e.minute % 1440) 0)
  where
    by : (b : Bool) → last_word (cond b (entry_word e ∷ []) (bare_word ∷ entry_word e ∷ [])) ≡ entry_word e
    by true = refl
    by false = refl

pub entered_as : (size : ℕ) (e : Entry) (days : List Day) → AreDays 0 days → Entered size e days (entered_days size e days)
entered_as size e days are = by (is_newest (e.minute / 1440) (sizes days)) (tells_state e days) refl refl
  where
    by : (n told : Bool) → is_newest (e.minute / 1440) (sizes days) ≡ n → tells_state e days ≡ told → Entered size e days (cond n (cond told days (with_change size (entry_word e) days)) (with_new_day size e days))
    by true true newest told = Same newest (tells_on e 0 days are newest told)
    by true false newest told = Word (entry_word e) newest (tells_not e days told) (entry_top e) (entry_minute e)
    by false told newest any = Begun (day_words e) newest (day_count e) (ap (λ (w : ℕ). w / 2048) (day_last e) ∙ entry_top e) (ap word_minute (day_last e) ∙ entry_minute e)
