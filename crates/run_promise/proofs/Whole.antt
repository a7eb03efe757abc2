-- Where no failed call has cut the power, an accepted card that none has torn out has all of its entries, but those
-- behind a `tear` line.
use Rattle.std.proofs.Common.{◌≡◌, ⊎_elim, ℕ, ◌<◌, ◌≤◌, Bool, true, false, cond, List, [], ◌∷◌, ◌++◌, All, Contains, refl, ap, sym, subst, ◌∙◌, arith}
use Rattle.std.specs.Prelude.{flat_map, map, filter}
use Rattle.std.proofs.lemmas.List.{append_cancel_left}
use Rattle.std.proofs.lemmas.List.Elements.{All-contains, filter-append, Contains-append_left, Contains-append_right, Contains-push_cases, Contains-append_cases}
use Rattle.run_course.specs.activity_codec.declared.entries.Entry.{Entry}
use Rattle.run_course.specs.activity_codec.declared.values.Slot.{Slot}
use Rattle.run_course.specs.activity_codec.declared.values.Slot.TheVariants.{Driver, CoDriver}
use Rattle.run_course.specs.activity_codec.Activity.{same_slot}
use Rattle.run_course.specs.trace_model.declared.Card.{Card}
use Rattle.run_course.specs.trace_model.declared.Card.TheVariants.{A, B}
use Rattle.run_course.specs.run_model.declared.Device.TheVariants.{Unit as Recorder}
use Rattle.tach_media.specs.Medium.{IsCoherent}
use Rattle.unit_rule.specs.unit_model.Image.{recorded, last_kept}
use Rattle.run_course.specs.minute_model.declared.Minute.{Minute}
use Rattle.run_course.specs.log_model.declared.lines.Break.{Break}
use Rattle.run_course.specs.log_model.declared.lines.Mark.{Mark}
use Rattle.run_course.specs.log_model.Log.{Phase}
use Rattle.run_course.specs.log_model.Course.{ToldSecond, Visit}
use Rattle.run_course.specs.log_model.Spans.{spans_of, AreInOrder}
use Rattle.run_course.specs.log_model.Slots.{same_card}
use Rattle.run_course.specs.log_model.Causes.{device_of, cuts, tears, places, visit_places, in_the_slot, torn_of, cards_torn}
use Rattle.run_course.specs.history_model.Minutes.{HistoryMinute, card_history, on_card}
use Rattle.run_course.specs.history_model.Presence.{CardStart}
use Rattle.run_course.specs.history_model.History.{settlings_of, decided_of}
use Rattle.run_course.specs.history_model.Completeness.{deciding_of, IsMarked}
use Rattle.run_course.proofs.history_model.Books.{history-append, history-one, history-none, on_card-minute}
use Rattle.unit_rule.specs.card_image.Own.{own_view, own_number, IsOwnValid}
use Rattle.run_course.proofs.history_model.Decided.{unit-decided}
use Rattle.unit_rule.specs.safety_model.Recording.{Recording, card_image, told_of, brought, start_of, history_of, unit_seen}
use Rattle.unit_rule.specs.safety_model.Unit.{marks_of}
use Rattle.unit_rule.specs.safety_model.Cards.{CardShows, IsRepaired, acceptances}
use Rattle.unit_rule.specs.safety_model.Safe.{Devices, card_of, IsSafe, IsCaused}
use Rattle.unit_rule.proofs.safety_model.Whole.{mark-of, no-failure, in-history, unit-whole}
use Rattle.run_promise.proofs.CardEnd.{started}
use Rattle.run_promise.proofs.Entries.{all-by}
use Rattle.run_promise.proofs.Behind.{owed-until}
use Rattle.run_promise.proofs.Accounts.{last-of}
use Rattle.run_promise.specs.Whole.{IsUntorn, IsPulledBehind, IsFull, IsWhole}

-- an entry of a card's history stands on one of its minutes
said-on : (c : Card) (past : List HistoryMinute) (e : Entry) → Contains (card_history c past) e → (i : HistoryMinute) × Contains past i × Contains (on_card c i) e
said-on c [] e at = absurd (let none : Contains {X = Entry} [] e = subst (λ (zs : List Entry). Contains zs e) (history-none c) at in omega (arith, none.1))
said-on c (i ∷ past) e at = ⊎_elim
    (λ here. (i, Contains-append_left (i ∷ []) past i (0, omega arith, refl), here))
    (λ later. let more = said-on c past e later in (more.0, Contains-append_right (i ∷ []) past more.0 more.1, more.2))
    (Contains-append_cases (on_card c i) (card_history c past) e
    (subst (λ (zs : List Entry). Contains zs e) (history-append c (i ∷ []) past ∙ ap (λ (zs : List Entry). zs ++ card_history c past) (history-one c i)) at))

-- A CARD THAT WAS TORN OUT is told of in a slot
slot-itself : (s : Slot) → same_slot s s ≡ true
slot-itself Driver = refl
slot-itself CoDriver = refl

placed : (u : ℕ) (vs : List Visit) (v : Visit) → Contains vs v → Contains (visit_places u vs) (u, v.phase, v.slot)
placed u [] v at = absurd (omega (arith, at.1))
placed u (x ∷ vs) v at = ⊎_elim
    (λ here. ⊎_elim
    (λ none. absurd (omega (arith, none.1)))
    (λ (is : x ≡ v). Contains-append_left (visit_places u (x ∷ [])) (visit_places u vs) (u, v.phase, v.slot) (0, omega arith, ap (λ (y : Visit). (u, y.phase, y.slot)) is))
    (Contains-push_cases [] x v here))
    (λ there. Contains-append_right (visit_places u (x ∷ [])) (visit_places u vs) (u, v.phase, v.slot) (placed u vs v there))
    (Contains-append_cases (x ∷ []) vs v at)

torn-told : (told : List ToldSecond) (t : ToldSecond) (v : Visit) → Contains told t → Contains t.course.torn v → Contains (torn_of told) (t.second.number, v.phase, v.slot)
torn-told [] t v at torn = absurd (omega (arith, at.1))
torn-told (x ∷ told) t v at torn = ⊎_elim
    (λ here. ⊎_elim
    (λ none. absurd (omega (arith, none.1)))
    (λ (is : x ≡ t). Contains-append_left (visit_places x.second.number x.course.torn) (torn_of told) (t.second.number, v.phase, v.slot)
    (subst (λ (y : ToldSecond). Contains (visit_places y.second.number y.course.torn) (t.second.number, v.phase, v.slot)) (sym is) (placed t.second.number t.course.torn v torn)))
    (Contains-push_cases [] x t here))
    (λ there. Contains-append_right (visit_places x.second.number x.course.torn) (torn_of told) (t.second.number, v.phase, v.slot) (torn-told told t v there torn))
    (Contains-append_cases (x ∷ []) told t at)

in-slot : (slot : Slot) (ps : List (ℕ × Phase × Slot)) (p : ℕ × Phase × Slot) → same_slot p.2 slot ≡ true → Contains ps p → Contains (in_the_slot slot ps) p
in-slot slot [] p is at = absurd (omega (arith, at.1))
in-slot slot (x ∷ ps) p is at = ⊎_elim
    (λ first. ⊎_elim (λ none. absurd (omega (arith, none.1))) (λ (same : x ≡ p). here same (same_slot x.2 slot) refl) (Contains-push_cases [] x p first))
    (λ rest. there (same_slot x.2 slot) (in-slot slot ps p is rest))
    (Contains-append_cases (x ∷ []) ps p at)
  where
    there : (b : Bool) → Contains (in_the_slot slot ps) p → Contains (cond b (x ∷ in_the_slot slot ps) (in_the_slot slot ps)) p
    there true rest = Contains-append_right (x ∷ []) (in_the_slot slot ps) p rest
    there false rest = rest

    here : x ≡ p → (b : Bool) → same_slot x.2 slot ≡ b → Contains (cond b (x ∷ in_the_slot slot ps) (in_the_slot slot ps)) p
    here same true e = Contains-append_left (x ∷ []) (in_the_slot slot ps) p (0, omega arith, same)
    here same false e = absurd (let clash : false ≡ true = sym e ∙ ap (λ (y : ℕ × Phase × Slot). same_slot y.2 slot) same ∙ is in cc)

-- and in the list of those that were torn out
card-itself : (c : Card) → same_card c c ≡ true
card-itself A = refl
card-itself B = refl

one-less : (b : Bool) (y : Card) (ys : List Card) → cond b (y ∷ ys) ys ≡ [] → (b ≡ false) × (ys ≡ [])
one-less true y ys is = absurd (let e : y ∷ ys ≡ [] = is in cc)
one-less false y ys is = (refl, is)

both-none : (xs ys : List Card) → xs ++ ys ≡ [] → (xs ≡ []) × (ys ≡ [])
both-none [] ys is = (refl, is)
both-none (x ∷ xs) ys is = absurd (let e : x ∷ (xs ++ ys) ≡ [] = is in cc)

none-of : (c : Card) (vs : List Visit) (v : Visit) → Contains vs v → v.card ≡ c → filter (same_card c) (map (λ (w : Visit). w.card) vs) ≡ [] → ⊥
none-of c [] v at is none = omega (arith, at.1)
none-of c (x ∷ vs) v at is none =
    let parts = one-less (same_card c x.card) x.card (filter (same_card c) (map (λ (w : Visit). w.card) vs)) none in
    ⊎_elim
    (λ here. ⊎_elim
    (λ no. omega (arith, no.1))
    (λ (same : x ≡ v). let clash : true ≡ false = sym (ap (λ (w : Visit). same_card c w.card) same ∙ ap (same_card c) is ∙ card-itself c) ∙ parts.0 in cc)
    (Contains-push_cases [] x v here))
    (λ there. none-of c vs v there is parts.1)
    (Contains-append_cases (x ∷ []) vs v at)

none-told : (c : Card) (told : List ToldSecond) (t : ToldSecond) (v : Visit) → Contains told t → Contains t.course.torn v → v.card ≡ c → filter (same_card c) (cards_torn told) ≡ [] → ⊥
none-told c [] t v at torn is none = omega (arith, at.1)
none-told c (x ∷ told) t v at torn is none =
    let parts = both-none (filter (same_card c) (map (λ (w : Visit). w.card) x.course.torn)) (filter (same_card c) (cards_torn told)) (sym (filter-append (same_card c) (map (λ (w : Visit). w.card) x.course.torn) (cards_torn told)) ∙ none) in
    ⊎_elim
    (λ here. ⊎_elim
    (λ no. omega (arith, no.1))
    (λ (same : x ≡ t). none-of c x.course.torn v (subst (λ (y : ToldSecond). Contains y.course.torn v) (sym same) torn) is parts.0)
    (Contains-push_cases [] x t here))
    (λ there. none-told c told t v there torn is parts.1)
    (Contains-append_cases (x ∷ []) told t at)

module _ (r : Recording) (marks : List Mark) (began now : Devices) (uncut : cuts true r.log ≡ []) (safe : IsSafe r marks began now) (caused : IsCaused r marks began now) where
  none-torn : tears true r.log ≡ [] → (t : ToldSecond) (v : Visit) → Contains (told_of r) t → Contains t.course.torn v → ⊥
  none-torn nothing t v at torn =
      let there = in-slot v.slot (torn_of (told_of r)) (t.second.number, v.phase, v.slot) (slot-itself v.slot) (torn-told (told_of r) t v at torn) in
      let same = caused.causes.failed_tears v.slot in
      let none : Contains {X = ℕ × Phase × Slot} [] (t.second.number, v.phase, v.slot) =
      subst (λ (bs : List Break). Contains (in_the_slot v.slot (flat_map places bs)) (t.second.number, v.phase, v.slot)) nothing
      (subst (λ (ps : List (ℕ × Phase × Slot)). Contains ps (t.second.number, v.phase, v.slot)) (sym same) there) in
      omega (arith, none.1)

  -- a card that no failed call has torn out was not torn out
  not-torn : (c : Card) → IsUntorn r c → (t : ToldSecond) (v : Visit) → Contains (told_of r) t → v.card ≡ c → Contains t.course.torn v → ⊥
  not-torn c untorn t v at is torn = ⊎_elim (λ none. none-torn none t v at torn) (λ mine. none-told c (told_of r) t v at torn is mine) untorn

  module _ (c : Card) (untorn : IsUntorn r c) (valid : IsOwnValid (card_image r c)) (u : ℕ) (accepted : Contains (acceptances r c) u) (x : List ℕ) (left : (card_of now c).may_leave x) where
    s : IsRepaired r c marks x
    s = (safe.card c).repaired valid x left

    -- the expected ones but those of the start
    parts : (shows : CardShows r c x) → (brought r c).owed ++ card_history c (history_of r) ≡ shows.more ++ shows.rest
    parts shows =
        append_cancel_left (brought r c).entries ((brought r c).owed ++ card_history c (history_of r)) (shows.more ++ shows.rest)
        (ap (λ (start : CardStart). start.entries ++ (start.owed ++ card_history c (history_of r))) (sym (started r c)) ∙ shows.whole)

    -- what was owed at the start is there
    not-owed : (e : Entry) → Contains (brought r c).owed e → last_kept r.unit < e.minute → ⊥
    not-owed e at late =
        let le : e.minute ≤ (unit_seen r r.unit).last = All-contains (λ (d : Entry). d.minute ≤ (unit_seen r r.unit).last) (brought r c).owed e (owed-until c (unit_seen r r.unit) (own_view (card_image r c))) at in
        omega (arith, le, late, last-of (own_number r.card_a) (own_number r.card_b) r.unit)

    -- and what a minute says, but behind a `tear` line
    pulled : (rest : List Entry) → ((m : Mark) → Contains (marks_of (device_of c) marks) m → All (λ (d : Entry). m.minute < d.minute) rest) → (e : Entry) → Contains rest e → Contains (card_history c (history_of r)) e →
        IsPulledBehind r c e.minute
    pulled rest acknowledged e in_ at =
        let i = said-on c (history_of r) e at in
        let from_ = unit-decided r.rule (start_of r) r.log (told_of r) i.0 i.1 in
        let minute : e.minute ≡ i.0.minute = All-contains (λ (d : Entry). d.minute ≡ i.0.minute) (on_card c i.0) e (on_card-minute c i.0) i.2 in
        subst (IsPulledBehind r c) (sym minute) (⊎_elim
        (λ k. absurd (
        let m = mark-of (device_of c) marks i.0.minute k in
        let lt : m.0.minute < e.minute = All-contains (λ (d : Entry). m.0.minute < d.minute) rest e (acknowledged m.0 m.1) in_ in
        let same = m.2 in omega (arith, lt, same, minute)))
        (λ broken. ⊎_elim
        (λ failed. absurd (no-failure r.log uncut (deciding_of r.rule (settlings_of from_.span) i.0.minute) failed))
        (λ torn. ⊎_elim
        (λ out. absurd (not-torn c untorn torn.0 torn.4.0 torn.1 torn.4.1 out))
        (λ out. record { span = from_.span; among = from_.among; t = torn.0; there = torn.1; behind = torn.2; before = torn.3; pulled = (torn.4.0, torn.4.1, out) })
        torn.4.2)
        broken)
        (caused.complete.card from_.span from_.decided i.0 c e from_.among from_.within i.1 (sym from_.same) i.2))

    pub is-full : IsFull r c x
    is-full = record {
      shows = s.shows;
      missing = all-by (λ (e : Entry). IsPulledBehind r c e.minute) s.shows.rest (λ e in_. ⊎_elim
          (λ owed_one. absurd (not-owed e owed_one (All-contains (λ (d : Entry). last_kept r.unit < d.minute) s.shows.rest e (s.owes_none u accepted) in_)))
          (λ said. pulled s.shows.rest s.acknowledged e in_ said)
          (Contains-append_cases (brought r c).owed (card_history c (history_of r)) e
          (subst (λ (zs : List Entry). Contains zs e) (sym (parts s.shows)) (Contains-append_right s.shows.more s.shows.rest e in_))));
      brought = s.brought;
    }

-- EVERY MINUTE IS THERE
pub is-whole : (r : Recording) (marks : List Mark) (began now : Devices) (n : ℕ) → AreInOrder n r.trace → cuts true r.log ≡ [] → IsSafe r marks began now → IsCaused r marks began now → IsCoherent now.unit → began.unit.clock ≤ now.unit.clock →
    IsWhole r now
is-whole r marks began now n order uncut safe caused coherent early =
    record {
      decided = in-history r.rule (start_of r) r.log n r.trace order (recorded r.unit) marks began.unit.clock now.unit coherent early marked safe.unit;
      unit = unit-whole r.rule (start_of r) r.log n r.trace order (recorded r.unit) marks began.unit.clock now.unit coherent early marked safe.unit;
      card = λ c u untorn valid accepted x left. is-full r marks began now uncut safe caused c untorn valid u accepted x left;
    }
  where
    marked : (span : List ToldSecond) (d : Minute) → Contains (spans_of (told_of r)) span → Contains (decided_of r.rule span) d → IsMarked marks Recorder d.minute
    marked span d at in_ = ⊎_elim (λ m. m) (λ failed. absurd (no-failure r.log uncut (deciding_of r.rule (settlings_of span) d.minute) failed)) (caused.complete.unit span d at in_)
