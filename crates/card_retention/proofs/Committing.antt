-- The commit: with the mark at an entry's minute the string shows one entry more, where no minute between tells one.
use Rattle.std.proofs.Common.{◌≡◌, ⊎_elim, ℕ, zero, suc, ◌+◌, ◌/◌, ◌%◌, ◌<◌, ◌≤◌, Bool, true, false, cond, ◌==◌, Option, Some, None, List, [], ◌∷◌, ◌++◌, refl, sym, ◌∙◌, ap, arith, append_assoc}
use Rattle.std.specs.Prelude.{nat_le}
use Rattle.std.proofs.lemmas.Bool.{cases_lt, le-leb, leb-false}
use Rattle.activity_codec.specs.declared.entries.Entry.{Entry}
use Rattle.activity_codec.specs.declared.values.Slot.{Slot}
use Rattle.activity_codec.specs.declared.values.Slot.TheVariants.{Driver, CoDriver}
use Rattle.activity_codec.specs.declared.values.Activity.{Activity}
use Rattle.activity_codec.specs.declared.values.Activity.TheVariants as activity
use Rattle.activity_codec.specs.Words.{slot_number, slot_numbered, activity_number, activity_numbered, bit, word_absent, word_slot, word_crew, word_act}
use Rattle.card_model.specs.Days.{Day}
use Rattle.card_model.specs.Changes.{date_of}
use Rattle.card_retention.specs.Shown.{entry_state}
use Rattle.card_retention.specs.Entries.{latest, told_by, entry_at, minutes_from, day_entries, entries_up_to}
use Rattle.card_retention.proofs.Newest.{late_none, minutes_none}

-- THE ENTRY that a word of its state tells
slot_back : (s : Slot) → slot_numbered (slot_number s) ≡ s
slot_back Driver = refl
slot_back CoDriver = refl

act_back : (a : Activity) → activity_numbered (activity_number a) ≡ a
act_back activity.Rest = refl
act_back activity.Available = refl
act_back activity.Work = refl
act_back activity.Driving = refl

act_low : (a : Activity) → activity_number a ≤ 3
act_low activity.Rest = omega arith
act_low activity.Available = omega arith
act_low activity.Work = omega arith
act_low activity.Driving = omega arith

bit_low : (b : Bool) → bit b ≤ 1
bit_low true = omega arith
bit_low false = omega arith

bit_back : (b : Bool) → (bit b == 1) ≡ b
bit_back true = refl
bit_back false = refl

pub told_back : (e : Entry) (m w : ℕ) → m ≡ e.minute → w / 2048 ≡ entry_state e → told_by m (Some w) ≡ Some e
told_back e m w at state =
    let a : w / 32768 ≡ slot_number e.slot = omega (arith, state, act_low e.act, bit_low e.crew) in
    let b : w / 16384 % 2 ≡ bit e.crew = omega (arith, state, act_low e.act, bit_low e.crew) in
    let c : w / 2048 % 4 ≡ activity_number e.act = omega (arith, state, act_low e.act, bit_low e.crew) in
    let d : w / 8192 % 2 ≡ 0 = omega (arith, state, act_low e.act, bit_low e.crew) in
    let slot : word_slot w ≡ e.slot = ap slot_numbered a ∙ slot_back e.slot in
    let crew : word_crew w ≡ e.crew = ap (λ (n : ℕ). n == 1) b ∙ bit_back e.crew in
    let act : word_act w ≡ e.act = ap activity_numbered c ∙ act_back e.act in
    let present : word_absent w ≡ false = ap (λ (n : ℕ). n == 1) d in
    ap (λ (x : Bool). cond x None (Some (record { minute = m; slot = word_slot w; crew = word_crew w; act = word_act w }))) present
    ∙ ap (λ (n : ℕ). Some (record { minute = n; slot = word_slot w; crew = word_crew w; act = word_act w })) at
    ∙ ap (λ (s : Slot). Some (record { minute = e.minute; slot = s; crew = word_crew w; act = word_act w })) slot
    ∙ ap (λ (b : Bool). Some (record { minute = e.minute; slot = e.slot; crew = b; act = word_act w })) crew
    ∙ ap (λ (a : Activity). Some (record { minute = e.minute; slot = e.slot; crew = e.crew; act = a })) act

-- ONE MINUTE MORE
minutes_alike : (f g : ℕ → Option Entry) (n t : ℕ) → ((s : ℕ) → t ≤ s → s < t + n → f s ≡ g s) → minutes_from f n t ≡ minutes_from g n t
minutes_alike f g zero t same = refl
minutes_alike f g (suc n) t same =
    ap (λ (o : Option Entry). elim o as (λ _. List Entry) [ Some x ↦ x ∷ minutes_from f n (t + 1) | None ↦ minutes_from f n (t + 1) ]) (same t (omega arith) (omega arith))
    ∙ ap (λ (l : List Entry). elim (g t) as (λ _. List Entry) [ Some x ↦ x ∷ l | None ↦ l ]) (minutes_alike f g n (t + 1) (λ s lo hi. same s (omega (arith, lo)) (omega (arith, hi))))

minutes_one : (f g : ℕ → Option Entry) (e : Entry) (u : ℕ) → f u ≡ Some e → g u ≡ None → ((s : ℕ) → u < s → f s ≡ None) → ((s : ℕ) → u < s → g s ≡ None) → ((s : ℕ) → s < u → f s ≡ g s) → (n t : ℕ) → t ≤ u → u < t + n → minutes_from f n t ≡ minutes_from g n t ++ e ∷ []
minutes_one f g e u fu gu flate glate same zero t le lt = absurd (omega (arith, le, lt))
minutes_one f g e u fu gu flate glate same (suc n) t le lt = ⊎_elim
    (λ below. earlier below (minutes_one f g e u fu gu flate glate same n (t + 1) (omega (arith, below)) (omega (arith, lt))))
    (λ not_below. here (omega (arith, le, not_below)))
    (cases_lt t u)
  where
    earlier : t < u → minutes_from f n (t + 1) ≡ minutes_from g n (t + 1) ++ e ∷ [] → minutes_from f (suc n) t ≡ minutes_from g (suc n) t ++ e ∷ []
    earlier below rest =
        ap (λ (o : Option Entry). elim o as (λ _. List Entry) [ Some x ↦ x ∷ minutes_from f n (t + 1) | None ↦ minutes_from f n (t + 1) ]) (same t below) ∙ by (g t) rest
      where
        by : (o : Option Entry) → minutes_from f n (t + 1) ≡ minutes_from g n (t + 1) ++ e ∷ []
            → (elim o as (λ _. List Entry) [ Some x ↦ x ∷ minutes_from f n (t + 1) | None ↦ minutes_from f n (t + 1) ]) ≡ (elim o as (λ _. List Entry) [ Some x ↦ x ∷ minutes_from g n (t + 1) | None ↦ minutes_from g n (t + 1) ]) ++ e ∷ []
        by None rest = rest
        by (Some x) rest = ap (λ (l : List Entry). x ∷ l) rest

    here : t ≡ u → minutes_from f (suc n) t ≡ minutes_from g (suc n) t ++ e ∷ []
    here at =
        ap (λ (o : Option Entry). elim o as (λ _. List Entry) [ Some x ↦ x ∷ minutes_from f n (t + 1) | None ↦ minutes_from f n (t + 1) ]) (ap f at ∙ fu)
        ∙ ap (λ (l : List Entry). e ∷ l) (minutes_none f n (t + 1) (λ s le. flate s (omega (arith, le, at))))
        ∙ sym (ap (λ (o : Option Entry). (elim o as (λ _. List Entry) [ Some x ↦ x ∷ minutes_from g n (t + 1) | None ↦ minutes_from g n (t + 1) ]) ++ e ∷ []) (ap g at ∙ gu)
        ∙ ap (λ (l : List Entry). l ++ e ∷ []) (minutes_none g n (t + 1) (λ s le. glate s (omega (arith, le, at)))))

-- no minute of the day behind the mark and before the next entry tells one
abbrev pub QuietDay : (mark next : ℕ) → Day → Type 0
QuietDay mark next d = (t : ℕ) → t < 1440 → mark < d.date / 60 + t → d.date / 60 + t < next → told_by (d.date / 60 + t) (latest d.words t) ≡ None

abbrev pub Quiet : (mark next : ℕ) → List Day → Type 0
Quiet mark next [] = Unit {0}
Quiet mark next (d ∷ ds) = QuietDay mark next d × Quiet mark next ds

-- the newest day with the entry's word
pub entry_day : (mark : ℕ) (e : Entry) (d after : Day) → mark < e.minute → QuietDay mark e.minute d → after.date ≡ d.date → d.date ≡ date_of e.minute
    → ((t : ℕ) → t < e.minute % 1440 → latest after.words t ≡ latest d.words t) → told_by e.minute (latest after.words (e.minute % 1440)) ≡ Some e → day_entries e.minute after ≡ day_entries mark d ++ e ∷ []
unfolding day_entries
entry_day mark e d after lt quiet date day same tells = minutes_one (entry_at e.minute after) (entry_at mark d) e (e.minute % 1440) here none (λ s le. late_none e.minute after s (omega (arith, le, date, day))) (λ s le. late_none mark d s (omega (arith, le, day, lt))) earlier 1440 0 (omega arith) (omega arith)
  where
    at : after.date / 60 + e.minute % 1440 ≡ e.minute
    at = omega (arith, date, day)

    here : entry_at e.minute after (e.minute % 1440) ≡ Some e
    here = ap (λ (b : Bool). cond b (told_by (after.date / 60 + e.minute % 1440) (latest after.words (e.minute % 1440))) None) (le-leb (after.date / 60 + e.minute % 1440) e.minute (omega (arith, at)))
        ∙ ap (λ (m : ℕ). told_by m (latest after.words (e.minute % 1440))) at ∙ tells

    none : entry_at mark d (e.minute % 1440) ≡ None
    none = late_none mark d (e.minute % 1440) (omega (arith, day, lt))

    earlier : (s : ℕ) → s < e.minute % 1440 → entry_at e.minute after s ≡ entry_at mark d s
    earlier s lo =
        ap (λ (b : Bool). cond b (told_by (after.date / 60 + s) (latest after.words s)) None) (le-leb (after.date / 60 + s) e.minute (omega (arith, at, lo)))
        ∙ ap (λ (o : Option ℕ). told_by (after.date / 60 + s) o) (same s lo) ∙ ap (λ (n : ℕ). told_by (n / 60 + s) (latest d.words s)) date
        ∙ by (nat_le (d.date / 60 + s) mark) refl
      where
        by : (b : Bool) → nat_le (d.date / 60 + s) mark ≡ b → told_by (d.date / 60 + s) (latest d.words s) ≡ cond b (told_by (d.date / 60 + s) (latest d.words s)) None
        by true is = refl
        by false is = quiet s (omega (arith, lo)) (leb-false (d.date / 60 + s) mark is) (omega (arith, at, lo, date))

-- an older day shows what it did
older_day : (mark : ℕ) (e : Entry) (d : Day) → mark < e.minute → QuietDay mark e.minute d → d.date % 86400 ≡ 0 → d.date < date_of e.minute → day_entries e.minute d ≡ day_entries mark d
unfolding day_entries
older_day mark e d lt quiet midnight before = minutes_alike (entry_at e.minute d) (entry_at mark d) 1440 0 (λ s lo hi. each s (omega (arith, hi)))
  where
    each : (s : ℕ) → s < 1440 → entry_at e.minute d s ≡ entry_at mark d s
    each s hi =
        ap (λ (b : Bool). cond b (told_by (d.date / 60 + s) (latest d.words s)) None) (le-leb (d.date / 60 + s) e.minute (omega (arith, before, hi, midnight))) ∙ by (nat_le (d.date / 60 + s) mark) refl
      where
        by : (b : Bool) → nat_le (d.date / 60 + s) mark ≡ b → told_by (d.date / 60 + s) (latest d.words s) ≡ cond b (told_by (d.date / 60 + s) (latest d.words s)) None
        by true is = refl
        by false is = quiet s hi (leb-false (d.date / 60 + s) mark is) (omega (arith, before, hi, midnight))

abbrev pub Olds : ℕ → List Day → Type 0
Olds date [] = Unit {0}
Olds date (d ∷ ds) = (d.date % 86400 ≡ 0) × (d.date < date) × Olds date ds

pub older_days : (mark : ℕ) (e : Entry) (ds : List Day) → mark < e.minute → Quiet mark e.minute ds → Olds (date_of e.minute) ds → entries_up_to e.minute ds ≡ entries_up_to mark ds
older_days mark e [] lt quiet olds = refl
older_days mark e (d ∷ ds) lt quiet olds =
    ap (λ (l : List Entry). l ++ entries_up_to e.minute ds) (older_day mark e d lt quiet.0 olds.0 olds.1) ∙ ap (λ (l : List Entry). day_entries mark d ++ l) (older_days mark e ds lt quiet.1 olds.2)

entries_append : (mark : ℕ) (ds es : List Day) → entries_up_to mark (ds ++ es) ≡ entries_up_to mark ds ++ entries_up_to mark es
entries_append mark [] es = refl
entries_append mark (d ∷ ds) es = ap (λ (l : List Entry). day_entries mark d ++ l) (entries_append mark ds es) ∙ sym (append_assoc (day_entries mark d) (entries_up_to mark ds) (entries_up_to mark es))

-- A COMMIT: the newest day tells the entry at its minute and is as it was before it
pub commits : (mark : ℕ) (e : Entry) (olds : List Day) (d after : Day) → mark < e.minute → Quiet mark e.minute olds → QuietDay mark e.minute d → Olds (date_of e.minute) olds → after.date ≡ d.date → d.date ≡ date_of e.minute
    → ((t : ℕ) → t < e.minute % 1440 → latest after.words t ≡ latest d.words t) → told_by e.minute (latest after.words (e.minute % 1440)) ≡ Some e
    → entries_up_to e.minute (olds ++ after ∷ []) ≡ entries_up_to mark (olds ++ d ∷ []) ++ e ∷ []
commits mark e olds d after lt quiet quiet_d before date day same tells =
    entries_append e.minute olds (after ∷ [])
    ∙ ap (λ (l : List Entry). l ++ (day_entries e.minute after ++ [])) (older_days mark e olds lt quiet before)
    ∙ ap (λ (l : List Entry). entries_up_to mark olds ++ (l ++ [])) (entry_day mark e d after lt quiet_d date day same tells)
    ∙ ap (λ (l : List Entry). entries_up_to mark olds ++ l) (turn (day_entries mark d))
    ∙ sym (append_assoc (entries_up_to mark olds) (day_entries mark d ++ []) (e ∷ []))
    ∙ ap (λ (l : List Entry). l ++ e ∷ []) (sym (entries_append mark olds (d ∷ [])))
  where
    turn : (es : List Entry) → (es ++ e ∷ []) ++ [] ≡ (es ++ []) ++ e ∷ []
    turn [] = refl
    turn (x ∷ es) = ap (λ (l : List Entry). x ∷ l) (turn es)
