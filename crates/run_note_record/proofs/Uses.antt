-- The uses that insertions find and leave, as more notes are made.
use Rattle.std.proofs.Common.{◌≡◌, ◌∙◌, ℕ, Bool, true, false, cond, List, [], ◌∷◌, ◌++◌, Some, None, map, refl, ap, sym, append-nil, append_assoc}
use Rattle.std.specs.Prelude.{not, ◌&&◌, ◌||◌, filter, fold}
use Rattle.std.specs.List.{AllByRecursion, list_any}
use Rattle.std.proofs.lemmas.List.{map-append}
use Rattle.std.proofs.lemmas.List.Elements.{filter-append}
use Rattle.std.proofs.lemmas.List.Sums.{fold-append}
use Rattle.run_events.specs.activity_codec.declared.values.Slot.{Slot}
use Rattle.run_devices.specs.trace_model.declared.Card.{Card}
use Rattle.run_devices.specs.trace_model.declared.Card.TheVariants.{A, B}
use Rattle.run_devices.specs.tacho_types.declared.texts.Registration.{Registration}
use Rattle.run_events.specs.card_files.declared.current_use.CurrentUse.{CurrentUse}
use Rattle.run_devices.specs.log_model.declared.lines.Verdict.{Verdict}
use Rattle.run_devices.specs.log_model.Log.{is_accepting}
use Rattle.run_devices.specs.log_model.Slots.{same_card}
use Rattle.run_devices.specs.note_model.Noted.{Withdrawal, InsertionNote, Note, Accepts, Withdraws, Enters, with_withdrawal, with_note, insertions_of}
use Rattle.run_events.specs.run_rings.Notes.{accepts_by}
use Rattle.run_note_record.specs.Uses.{left_by, use_behind, uses_from, insertions_on, inserted, insertions_at, times_of}

-- ---- one after another

pub uses-append : (own : Registration) (held : CurrentUse) (xs ys : List InsertionNote) → uses_from own held (xs ++ ys) ≡ uses_from own held xs ++ uses_from own (use_behind own held xs) ys
uses-append own held [] ys = refl
uses-append own held (x ∷ xs) ys = ap (λ (l : List CurrentUse). held ∷ l) (uses-append own (left_by own x) xs ys)

pub times-append : (xs ys : List CurrentUse) → times_of (xs ++ ys) ≡ times_of xs ++ times_of ys
times-append xs ys = map-append (λ (held : CurrentUse). held.session.0) xs ys

-- ---- cards

pub card-is : (x y : Card) → same_card x y ≡ true → x ≡ y
card-is A A is = refl
card-is A B is = absurd (let wrong : false ≡ true = is in cc)
card-is B A is = absurd (let wrong : false ≡ true = is in cc)
card-is B B is = refl

pub card-self : (x : Card) → same_card x x ≡ true
card-self A = refl
card-self B = refl

pub card-turned : (x y : Card) → same_card x y ≡ same_card y x
card-turned A A = refl
card-turned A B = refl
card-turned B A = refl
card-turned B B = refl

-- ---- those of a card

abbrev of_card : Card → InsertionNote → Bool
of_card c i = same_card c i.accepted.card

filter-mine : (c : Card) (i : InsertionNote) (is : List InsertionNote) → same_card c i.accepted.card ≡ true → filter (of_card c) (i ∷ is) ≡ i ∷ filter (of_card c) is
filter-mine c i is mine = ap (λ (b : Bool). cond b (i ∷ filter (of_card c) is) (filter (of_card c) is)) mine

filter-other : (c : Card) (i : InsertionNote) (is : List InsertionNote) → same_card c i.accepted.card ≡ false → filter (of_card c) (i ∷ is) ≡ filter (of_card c) is
filter-other c i is other = ap (λ (b : Bool). cond b (i ∷ filter (of_card c) is) (filter (of_card c) is)) other

-- ---- a withdrawal: it changes nothing of what was found

abbrev later_one : Withdrawal → List InsertionNote → Bool
later_one w later = list_any (λ (j : InsertionNote). same_card j.accepted.card w.card) later

or-false : (a b : Bool) → (a || b) ≡ false → (a ≡ false) × (b ≡ false)
or-false true b is = absurd (let wrong : true ≡ false = is in cc)
or-false false b is = (refl, is)

-- where none is of the card that is withdrawn, none is of this one, if it is that
none-later : (c : Card) (w : Withdrawal) → c ≡ w.card → (later : List InsertionNote) → later_one w later ≡ false → filter (of_card c) later ≡ []
none-later c w is [] none = refl
none-later c w is (j ∷ later) none =
    let parts = or-false (same_card j.accepted.card w.card) (later_one w later) none in
    filter-other c j later (ap (λ (d : Card). same_card d j.accepted.card) is ∙ card-turned w.card j.accepted.card ∙ parts.0) ∙ none-later c w is later parts.1

-- by whether it is of this insertion, and whether of a later one
goes-so : (w : Withdrawal) (i : InsertionNote) (later : List InsertionNote) (own some : Bool) → same_card i.accepted.card w.card ≡ own → later_one w later ≡ some →
    with_withdrawal w (i ∷ later) ≡ cond (own && not some) (record i { withdrawn = Some w.second } ∷ later) (i ∷ with_withdrawal w later)
goes-so w i later own some m s =
    ap (λ (b : Bool). cond (b && not (later_one w later)) (record i { withdrawn = Some w.second } ∷ later) (i ∷ with_withdrawal w later)) m
    ∙ ap (λ (b : Bool). cond (own && not b) (record i { withdrawn = Some w.second } ∷ later) (i ∷ with_withdrawal w later)) s

module _ (vehicle : Registration) (c : Card) (w : Withdrawal) where
  -- this insertion stays, and of those behind it the same was found
  stays-then : (held : CurrentUse) (i : InsertionNote) (later : List InsertionNote) (mine : Bool) → same_card c i.accepted.card ≡ mine →
      ((u : CurrentUse) → uses_from vehicle u (filter (of_card c) (with_withdrawal w later)) ≡ uses_from vehicle u (filter (of_card c) later)) →
      uses_from vehicle held (filter (of_card c) (i ∷ with_withdrawal w later)) ≡ uses_from vehicle held (filter (of_card c) (i ∷ later))
  stays-then held i later true mine rest =
      ap (uses_from vehicle held) (filter-mine c i (with_withdrawal w later) mine) ∙ ap (λ (l : List CurrentUse). held ∷ l) (rest (left_by vehicle i)) ∙ sym (ap (uses_from vehicle held) (filter-mine c i later mine))
  stays-then held i later false other rest =
      ap (uses_from vehicle held) (filter-other c i (with_withdrawal w later) other) ∙ rest held ∙ sym (ap (uses_from vehicle held) (filter-other c i later other))

  -- it is this insertion's, the last of its card
  ends-here : (held : CurrentUse) (i : InsertionNote) (later : List InsertionNote) (mine : Bool) → same_card c i.accepted.card ≡ mine → same_card i.accepted.card w.card ≡ true → later_one w later ≡ false →
      uses_from vehicle held (filter (of_card c) (record i { withdrawn = Some w.second } ∷ later)) ≡ uses_from vehicle held (filter (of_card c) (i ∷ later))
  ends-here held i later true mine own last =
      let none : filter (of_card c) later ≡ [] = none-later c w (card-is c i.accepted.card mine ∙ card-is i.accepted.card w.card own) later last in
      ap (uses_from vehicle held) (filter-mine c (record i { withdrawn = Some w.second }) later mine ∙ ap (λ (l : List InsertionNote). record i { withdrawn = Some w.second } ∷ l) none)
      ∙ sym (ap (uses_from vehicle held) (filter-mine c i later mine ∙ ap (λ (l : List InsertionNote). i ∷ l) none))
  ends-here held i later false other own last = ap (uses_from vehicle held) (filter-other c (record i { withdrawn = Some w.second }) later other) ∙ sym (ap (uses_from vehicle held) (filter-other c i later other))

  pub withdrawn-same : (is : List InsertionNote) (held : CurrentUse) → uses_from vehicle held (filter (of_card c) (with_withdrawal w is)) ≡ uses_from vehicle held (filter (of_card c) is)
  withdrawn-same [] held = refl
  withdrawn-same (i ∷ later) held = by (same_card i.accepted.card w.card) (later_one w later) refl refl (withdrawn-same later)
    where
      by : (own some : Bool) → same_card i.accepted.card w.card ≡ own → later_one w later ≡ some →
          ((u : CurrentUse) → uses_from vehicle u (filter (of_card c) (with_withdrawal w later)) ≡ uses_from vehicle u (filter (of_card c) later)) →
          uses_from vehicle held (filter (of_card c) (with_withdrawal w (i ∷ later))) ≡ uses_from vehicle held (filter (of_card c) (i ∷ later))
      by true true m s rest = ap (λ (l : List InsertionNote). uses_from vehicle held (filter (of_card c) l)) (goes-so w i later true true m s) ∙ stays-then held i later (same_card c i.accepted.card) refl rest
      by true false m s rest = ap (λ (l : List InsertionNote). uses_from vehicle held (filter (of_card c) l)) (goes-so w i later true false m s) ∙ ends-here held i later (same_card c i.accepted.card) refl m s
      by false some m s rest = ap (λ (l : List InsertionNote). uses_from vehicle held (filter (of_card c) l)) (goes-so w i later false some m s) ∙ stays-then held i later (same_card c i.accepted.card) refl rest

-- ---- notes

-- a note that is no acceptance of a card
abbrev pub NotAccepted : Card → Note → Type 0
NotAccepted c (Accepts a) = same_card c a.card ≡ false
NotAccepted c (Withdraws w) = Unit {0}
NotAccepted c (Enters p) = Unit {0}

module _ (vehicle : Registration) (c : Card) where
  note-quiet : (held : CurrentUse) (is : List InsertionNote) (n : Note) → NotAccepted c n → uses_from vehicle held (filter (of_card c) (with_note is n)) ≡ uses_from vehicle held (filter (of_card c) is)
  note-quiet held is (Accepts a) other =
      let i : InsertionNote = record { accepted = a; withdrawn = None } in
      ap (uses_from vehicle held) (filter-append (of_card c) is (i ∷ []) ∙ ap (λ (l : List InsertionNote). filter (of_card c) is ++ l) (filter-other c i [] other) ∙ append-nil (filter (of_card c) is))
  note-quiet held is (Withdraws w) other = withdrawn-same vehicle c w is held
  note-quiet held is (Enters p) other = refl

  notes-quiet : (held : CurrentUse) (is : List InsertionNote) (more : List Note) → AllByRecursion (NotAccepted c) more → uses_from vehicle held (filter (of_card c) (fold with_note is more)) ≡ uses_from vehicle held (filter (of_card c) is)
  notes-quiet held is [] all = refl
  notes-quiet held is (n ∷ more) all = notes-quiet held (with_note is n) more all.1 ∙ note-quiet held is n all.0

  -- NOTES THAT ACCEPT IT NOT: the same uses were found
  pub uses-quiet : (held : CurrentUse) (notes more : List Note) → AllByRecursion (NotAccepted c) more → uses_from vehicle held (insertions_on c (notes ++ more)) ≡ uses_from vehicle held (insertions_on c notes)
  uses-quiet held notes more all =
      ap (λ (l : List InsertionNote). uses_from vehicle held (filter (of_card c) l)) (fold-append with_note [] notes more) ∙ notes-quiet held (insertions_of notes) more all

-- ---- acceptances

-- those of a moment are insertions more
accepts-more : (u : ℕ) (slot : Slot) (card : Card) (verdicts : List Verdict) (is : List InsertionNote) → fold with_note is (map (λ (v : Verdict). Accepts (record { second = u; slot = slot; card = card })) verdicts) ≡ is ++ map (λ (v : Verdict). inserted u slot card) verdicts
accepts-more u slot card [] is = sym (append-nil is)
accepts-more u slot card (v ∷ verdicts) is =
    accepts-more u slot card verdicts (is ++ inserted u slot card ∷ []) ∙ append_assoc is (inserted u slot card ∷ []) (map (λ (v : Verdict). inserted u slot card) verdicts)

all-mine : (u : ℕ) (slot : Slot) (c : Card) (verdicts : List Verdict) → filter (of_card c) (map (λ (v : Verdict). inserted u slot c) verdicts) ≡ map (λ (v : Verdict). inserted u slot c) verdicts
all-mine u slot c [] = refl
all-mine u slot c (v ∷ verdicts) =
    filter-mine c (inserted u slot c) (map (λ (v : Verdict). inserted u slot c) verdicts) (card-self c) ∙ ap (λ (l : List InsertionNote). inserted u slot c ∷ l) (all-mine u slot c verdicts)

-- A CARD IS ACCEPTED
pub accepted-insertions : (c : Card) (notes : List Note) (u : ℕ) (slot : Slot) (verdicts : List Verdict) → insertions_on c (notes ++ accepts_by u slot c verdicts) ≡ insertions_on c notes ++ insertions_at u slot c verdicts
accepted-insertions c notes u slot verdicts =
    let those : List Verdict = filter is_accepting verdicts in
    ap (filter (of_card c)) (fold-append with_note [] notes (accepts_by u slot c verdicts) ∙ accepts-more u slot c those (insertions_of notes))
    ∙ filter-append (of_card c) (insertions_of notes) (map (λ (v : Verdict). inserted u slot c) those)
    ∙ ap (λ (l : List InsertionNote). insertions_on c notes ++ l) (all-mine u slot c those)

-- or another one is
pub accepts-other : (c : Card) (u : ℕ) (slot : Slot) (card : Card) (verdicts : List Verdict) → same_card c card ≡ false → AllByRecursion (NotAccepted c) (accepts_by u slot card verdicts)
accepts-other c u slot card verdicts other = each (filter is_accepting verdicts)
  where
    each : (vs : List Verdict) → AllByRecursion (NotAccepted c) (map (λ (v : Verdict). Accepts (record { second = u; slot = slot; card = card })) vs)
    each [] = tt
    each (v ∷ vs) = (other, each vs)
