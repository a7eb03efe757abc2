-- The first keep on a day that was begun: a repair has left that day with its first word.
use Rattle.std.proofs.Common.{◌≡◌, inl, inr, ⊎_elim, ℕ, suc, ◌+◌, ◌-◌, ◌*◌, ◌/◌, ◌%◌, ◌<◌, ◌≤◌, Bool, true, false, cond, ◌&&◌, List, [], ◌∷◌, ◌++◌, length, refl, sym, ◌∙◌, ap, subst, arith}
use Rattle.std.specs.Prelude.{nat_eq, nat_lt}
use Rattle.std.proofs.lemmas.Bool.{eqb-true}
use Rattle.card_by_hand.specs.activity_codec.declared.entries.Entry.{Entry}
use Rattle.card_by_hand.specs.activity_codec.declared.values.Activity.{Activity}
use Rattle.card_by_hand.specs.activity_codec.declared.values.Activity.TheVariants.{Rest, Available, Work, Driving}
use Rattle.card_by_hand.specs.activity_codec.Words.{word_minute, activity_number}
use Rattle.card_by_hand.specs.tacho_types.declared.texts.Registration.{Registration}
use Rattle.card_by_hand.specs.card_model.Days.{Day, AreDays, len_of, total, last_word}
use Rattle.card_by_hand.specs.card_model.Changes.{Remain, fitting, with_newest, with_word, with_km, date_of, trimmed}
use Rattle.card_by_hand.proofs.card_model.Retention.{remain_fitting}
use Rattle.card_by_hand.specs.card_retention.Expected.{Counted, is_newest, with_entry as counted_with}
use Rattle.card_by_hand.specs.card_retention.Shown.{Bound, Rests, Sound.Flat, Lives, sizes, is_open, entry_state}
use Rattle.card_by_hand.specs.card_retention.Entries.{latest, told_by, entries_up_to, newest_word}
use Rattle.card_by_hand.proofs.card_retention.Entering.{last_append}
use Rattle.card_by_hand.proofs.card_retention.Listing.{Lists}
use Rattle.card_by_hand.proofs.card_retention.Stub.{Stubbed, stub_kept, trimmed_before}
use Rattle.card_by_hand.specs.card_session.Books.{Book, mark_of, latest_of, closing_word, gap_closed, entry_word, bare_word, day_words, tells_state, with_change, with_new_day, entered_days, km_after, travelled, with_entry}
use Rattle.card_by_hand.specs.card_session.Moments.{IsBeforeMark, entry_len}
use Rattle.card_by_hand.specs.card_session.Overwriting.{and_entry}
use Rattle.card_by_hand.specs.card_session.Parts.{IsBeforeGapOf}
use Rattle.card_by_hand.proofs.card_session.Alike.{alike_km, are_bare, lives_alike}
use Rattle.card_by_hand.proofs.card_session.Following.{entry_minute, entry_top}
use Rattle.card_by_hand.proofs.card_session.Valid.{flat_of}
use Rattle.card_string.specs.Carried.{BegunOf}
use Rattle.card_by_hand.proofs.card_session.OnMark.{shut_first, none_day, bare_tells, entries_more}
use Rattle.card_string.proofs.Begun.{same, with_last, Stops, bare_stop, begun_stop, begun_lists}

-- of a string that ends with such a day the oldest go, but that one stays
total_more : (ds : List Day) (y : Day) → total (ds ++ y ∷ []) ≡ total ds + len_of y
total_more [] y = omega arith
total_more (d ∷ ds) y = omega (arith, total_more ds y)

remain_all : (room : ℕ) (ds : List Day) → Remain room ds ds
remain_all room [] = refl
remain_all room (d ∷ ds) = inl refl

record Left (room : ℕ) (ds : List Day) (y : Day) (kept : List Day) : Type 0 where
  front : List Day
  is : kept ≡ front ++ y ∷ []
  left : Remain (room - 14) ds front

left_day : (room : ℕ) (ds : List Day) (y : Day) (kept : List Day) → 14 ≤ room → length y.words ≡ 1 → Remain room (ds ++ y ∷ []) kept → Left room ds y kept
left_day room [] y kept wide one left = ⊎_elim
    (λ whole. all_of whole)
    (λ gone. absurd (omega (arith, gone.0, wide, one))) left
  where
    all_of : kept ≡ y ∷ [] → Left room [] y kept
    all_of whole = record { front = []; is = whole; left = refl }
left_day room (d ∷ ds) y kept wide one left = ⊎_elim
    (λ whole. all_of whole)
    (λ gone. fewer gone.0 (left_day room ds y kept wide one gone.1)) left
  where
    all_of : kept ≡ d ∷ (ds ++ y ∷ []) → Left room (d ∷ ds) y kept
    all_of whole = record { front = d ∷ ds; is = whole; left = inl refl }

    fewer : room < total (d ∷ (ds ++ y ∷ [])) → Left room ds y kept → Left room (d ∷ ds) y kept
    fewer lt rest = record { front = rest.front; is = rest.is; left = inr (omega (arith, lt, total_more ds y, one), rest.left) }

newest_last : (k : ℕ) (ds : List Day) (y : Day) → nat_eq (y.date / 86400) k ≡ true → is_newest k (sizes (ds ++ y ∷ [])) ≡ true
newest_last k [] y is = is
newest_last k (d ∷ []) y is = is
newest_last k (d ∷ e ∷ ds) y is = newest_last k (e ∷ ds) y is

latest_last : (ds : List Day) (y : Day) → y.words ≡ bare_word ∷ [] → latest_of (ds ++ y ∷ []) ≡ bare_word
latest_last [] y one = ap (λ (ws : List ℕ). last_word ws) one
latest_last (d ∷ []) y one = ap (λ (ws : List ℕ). last_word ws) one
latest_last (d ∷ e ∷ ds) y one = latest_last (e ∷ ds) y one

word_end : (ds : List Day) (d : Day) → newest_word (ds ++ d ∷ []) ≡ d.date / 60 + word_minute (last_word d.words)
word_end [] d = refl
word_end (e ∷ []) d = refl
word_end (e ∷ f ∷ ds) d = word_end (f ∷ ds) d

-- the first word tells no entry's state
untold : (e : Entry) → nat_eq (bare_word / 2048) (entry_state e) ≡ false
untold e = by (nat_eq (bare_word / 2048) (entry_state e)) refl
  where
    few : (a : Activity) → activity_number a < 4
    few Rest = omega arith
    few Available = omega arith
    few Work = omega arith
    few Driving = omega arith

    not_it : (n : ℕ) → n ≡ 4 → n ≡ entry_state e → ⊥
    not_it n four is = omega (arith, four, is, few e.act)

    by : (b : Bool) → nat_eq (bare_word / 2048) (entry_state e) ≡ b → nat_eq (bare_word / 2048) (entry_state e) ≡ false
    by false is = is
    by true is = absurd (not_it (bare_word / 2048) refl (eqb-true (bare_word / 2048) (entry_state e) is))

module _ (size : ℕ) (slack : Bound) (covered from : ℕ) (c : Counted) (all : List Entry) (b : Book) (g : BegunOf size slack covered from (mark_of b) c all b.days) (flat : trimmed (mark_of b) b.days ≡ b.days) (ordered : AreDays 0 b.days) (long : 5544 ≤ size) (least : 16 ≤ slack.bytes)
    (e : Entry) (before : IsBeforeGapOf e.minute b) (later : from ≤ e.minute) (here : e.minute / 1440 ≡ mark_of b / 1440) where
  pub behind : mark_of b < e.minute
  behind = omega (arith, before.1)

  days_are : b.days ≡ g.older ++ g.young ∷ []
  days_are = sym flat ∙ g.is

  one : length g.young.words ≡ 1
  one = ap (λ (ws : List ℕ). length ws) g.first

  pub lives : Lives size slack covered from (mark_of b) c g.older
  lives = record { rests = g.rests; sound = Flat (trimmed_before (mark_of b) g.older g.rests.ordered g.before) }

  pub lists_older : Lists (mark_of b) all g.older
  lists_older = sym (ap (λ (ds : List Day). entries_up_to (mark_of b) ds) days_are
      ∙ entries_more (mark_of b) g.older g.young (none_day (mark_of b) g.young (λ t le. ap (λ (ws : List ℕ). told_by (g.young.date / 60 + t) (latest ws t)) g.first ∙ bare_tells (g.young.date / 60 + t) t)))
      ∙ g.lists

  abbrev pub Stopping : List Day → Type 0
  Stopping kept = Stops size slack covered from c all (mark_of b) g.older lives g.until lists_older long least e behind later here g.before g.fresh g.empty kept

  gapped : gap_closed size (mark_of b) e.minute b.days ≡ b.days
  gapped = ap (λ (o : Bool). cond (o && nat_lt (suc (mark_of b)) e.minute) (with_newest (with_word (closing_word (suc (mark_of b)) Rest (latest_of b.days))) (fitting (size - 2) b.days)) b.days) shut
    where
      shut : is_open (mark_of b) b.days ≡ false
      shut = ap (λ (ds : List Day). is_open (mark_of b) ds) days_are ∙ shut_first (mark_of b) g.older g.young g.first

  newest : is_newest (e.minute / 1440) (sizes b.days) ≡ true
  newest = ap (λ (ds : List Day). is_newest (e.minute / 1440) (sizes ds)) days_are ∙ newest_last (e.minute / 1440) g.older g.young (same (g.young.date / 86400) (e.minute / 1440) (omega (arith, g.date, here)))

  not_told : tells_state e b.days ≡ false
  not_told = ap (λ (w : ℕ). nat_eq (w / 2048) (entry_state e)) (ap (λ (ds : List Day). latest_of ds) days_are ∙ latest_last g.older g.young g.first) ∙ untold e

  shorter : Left (size - 2) g.older g.young (fitting (size - 2) b.days)
  shorter = left_day (size - 2) g.older g.young (fitting (size - 2) b.days) (omega (arith, long)) one (subst (λ (ds : List Day). Remain (size - 2) ds (fitting (size - 2) b.days)) days_are (remain_fitting (size - 2) b.days))

  two : (with_word (entry_word e) g.young).words ≡ bare_word ∷ entry_word e ∷ []
  two = ap (λ (ws : List ℕ). ws ++ entry_word e ∷ []) g.first

  dated : g.young.date ≡ date_of e.minute
  dated = g.date ∙ ap (λ (n : ℕ). n * 86400) (sym here)

  changed : with_change size (entry_word e) b.days ≡ shorter.front ++ with_word (entry_word e) g.young ∷ []
  changed = ap (λ (ds : List Day). with_newest (with_word (entry_word e)) ds) shorter.is ∙ with_last (with_word (entry_word e)) shorter.front g.young

  entered : entered_days size e (gap_closed size (mark_of b) e.minute b.days) ≡ shorter.front ++ with_word (entry_word e) g.young ∷ []
  entered = ap (λ (ds : List Day). entered_days size e ds) gapped
      ∙ ap (λ (n : Bool). cond n (cond (tells_state e b.days) b.days (with_change size (entry_word e) b.days)) (with_new_day size e b.days)) newest
      ∙ ap (λ (t : Bool). cond t b.days (with_change size (entry_word e) b.days)) not_told ∙ changed

  km_is : (more : ℕ) → travelled more (entered_days size e (gap_closed size (mark_of b) e.minute b.days)) ≡ shorter.front ++ with_km (km_after more g.young.km) (with_word (entry_word e) g.young) ∷ []
  km_is more = ap (λ (ds : List Day). travelled more ds) entered ∙ with_last (λ d. with_km (km_after more d.km) d) shorter.front (with_word (entry_word e) g.young)

  -- ---- as long as the mark stays
  short_left : Remain (size - 16) g.older shorter.front
  short_left = let less : size - 2 - 14 ≡ size - 16 = omega arith in subst (λ (n : ℕ). Remain n g.older shorter.front) less shorter.left

  whole : Stopping b.days
  whole = subst Stopping (sym days_are)
      (bare_stop size slack covered from c all (mark_of b) g.older lives g.until lists_older long least e behind later here g.before g.fresh g.empty 0 g.older (omega arith, omega arith) (remain_all (size - 0) g.older) g.young g.date g.first)

  some_gone : (kept : List Day) → Remain (size - 2) b.days kept → Stopping kept
  some_gone kept left =
      let rest : Left (size - 2) g.older g.young kept = left_day (size - 2) g.older g.young kept (omega (arith, long)) one (subst (λ (ds : List Day). Remain (size - 2) ds kept) days_are left) in
      let less : size - 2 - 14 ≡ size - 16 = omega arith in
      subst Stopping (sym rest.is)
      (bare_stop size slack covered from c all (mark_of b) g.older lives g.until lists_older long least e behind later here g.before g.fresh g.empty 16 rest.front (omega arith, least) (subst (λ (n : ℕ). Remain n g.older rest.front) less rest.left) g.young g.date g.first)

  with_day : (d : Day) → d.date ≡ date_of e.minute → d.words ≡ bare_word ∷ entry_word e ∷ [] → Stopping (shorter.front ++ d ∷ [])
  with_day d date words = begun_stop size slack covered from c all (mark_of b) g.older lives g.until lists_older long least e behind later here g.before g.fresh g.empty 16 shorter.front (omega arith, least) short_left d date words

  pub again_newest : Stopping b.days
  again_newest = whole

  pub again_stops : (registration : Registration) (odometer more : ℕ) (kept : List Day) → IsBeforeMark size b (with_entry size registration odometer more b e) e kept → Stopping kept
  again_stops registration odometer more kept moment = ⊎_elim
      (λ gap. ⊎_elim (λ still. subst Stopping (sym still) whole) (λ gone. some_gone kept gone.2) gap)
      (λ rest. ⊎_elim
      (λ there. ⊎_elim
      (λ still. subst Stopping (sym (still ∙ gapped)) whole)
      (λ gone. some_gone kept (subst (λ (n : ℕ). Remain (size - n) b.days kept) len (subst (λ (ds : List Day). Remain (size - entry_len e ds) ds kept) gapped gone.1))) there)
      (λ last. ⊎_elim
      (λ word. subst Stopping (sym (word ∙ entered)) (with_day (with_word (entry_word e) g.young) dated two))
      (λ km. subst Stopping (sym (km ∙ km_is more)) (with_day (with_km (km_after more g.young.km) (with_word (entry_word e) g.young)) dated two)) last) rest) moment
    where
      len : entry_len e b.days ≡ 2
      len = ap (λ (n : Bool). cond n 2 (12 + 2 * length (day_words e))) newest

  -- ---- once it has moved
  abbrev stub : Stubbed size slack covered from (mark_of b) c b.days
  stub = record { older = g.older; young = g.young; is = days_are; rests = g.rests; date = g.date; one = one; before = g.before; fresh = g.fresh }

  pub again_lives : (more : ℕ) → AreDays 0 (travelled more (entered_days size e (gap_closed size (mark_of b) e.minute b.days)))
      → Lives size (and_entry slack e) covered (suc e.minute) e.minute (counted_with covered c e) (travelled more (entered_days size e (gap_closed size (mark_of b) e.minute b.days)))
  again_lives more there =
      lives_alike size (and_entry slack e) covered (suc e.minute) e.minute (counted_with covered c e) (entered_days size e (gap_closed size (mark_of b) e.minute b.days)) (travelled more (entered_days size e (gap_closed size (mark_of b) e.minute b.days)))
      (alike_km more (entered_days size e (gap_closed size (mark_of b) e.minute b.days))) there
      (record {
        rests = subst (λ (ds : List Day). Rests size (and_entry slack e) covered (suc e.minute) e.minute (counted_with covered c e) ds) (sym is_changed)
            (subst (λ (ds : List Day). Rests size (and_entry slack e) covered (suc e.minute) e.minute (counted_with covered c e) (with_newest (with_word (entry_word e)) (fitting (size - 2) ds))) (sym days_are) kept);
        sound = Flat (flat_of e.minute 0 (entered_days size e (gap_closed size (mark_of b) e.minute b.days)) there_bare (omega (arith, last_word_is, dated)));
      })
    where
      there_bare : AreDays 0 (entered_days size e (gap_closed size (mark_of b) e.minute b.days))
      there_bare = are_bare more 0 (entered_days size e (gap_closed size (mark_of b) e.minute b.days)) there

      is_changed : entered_days size e (gap_closed size (mark_of b) e.minute b.days) ≡ with_newest (with_word (entry_word e)) (fitting (size - 2) b.days)
      is_changed = entered ∙ sym changed

      kept : Rests size (and_entry slack e) covered (suc e.minute) e.minute (counted_with covered c e) (with_newest (with_word (entry_word e)) (fitting (size - 2) (g.older ++ g.young ∷ [])))
      kept = stub_kept size slack covered from (mark_of b) c b.days stub e later here long least (entry_word e) (entry_top e) g.rests.ordered (subst (λ (ds : List Day). AreDays 0 ds) days_are ordered)
          (subst (λ (ds : List Day). AreDays 0 (with_newest (with_word (entry_word e)) (fitting (size - 2) ds))) days_are (subst (λ (ds : List Day). AreDays 0 ds) is_changed there_bare))

      last_word_is : newest_word (entered_days size e (gap_closed size (mark_of b) e.minute b.days)) ≡ g.young.date / 60 + e.minute % 1440
      last_word_is = ap newest_word entered ∙ word_end shorter.front (with_word (entry_word e) g.young) ∙ ap (λ (w : ℕ). g.young.date / 60 + word_minute w) (last_append g.young.words (entry_word e)) ∙ ap (λ (m : ℕ). g.young.date / 60 + m) (entry_minute e)

  pub again_shows : (more : ℕ) → Lists e.minute (all ++ e ∷ []) (travelled more (entered_days size e (gap_closed size (mark_of b) e.minute b.days)))
  again_shows more = subst (λ (ds : List Day). Lists e.minute (all ++ e ∷ []) ds) (sym (km_is more))
      (begun_lists size slack covered from c all (mark_of b) g.older lives g.until lists_older long least e behind later here g.before g.fresh g.empty 16 shorter.front (omega arith, least) short_left (with_km (km_after more g.young.km) (with_word (entry_word e) g.young)) dated two)
