-- What a note makes of the spells of a card.
use Rattle.std.proofs.Common.{◌≡◌, ◌∙◌, Bool, true, false, cond, List, [], ◌∷◌, ◌++◌, Some, None, refl, ap, sym}
use Rattle.std.specs.Prelude.{not, ◌&&◌, ◌||◌, map, filter}
use Rattle.std.specs.List.{list_any}
use Rattle.std.proofs.lemmas.List.Sums.{fold-append}
use Rattle.trace_model.specs.declared.Card.{Card}
use Rattle.trace_model.specs.declared.Card.TheVariants.{A, B}
use Rattle.log_model.specs.Slots.{same_card}
use Rattle.unit_notes.specs.note_model.Noted.{Acceptance, Withdrawal, PlaceNote, InsertionNote, Note, Accepts, Withdraws, Enters, with_withdrawal, with_note, insertions_of}
use Rattle.run_acts.specs.Closings.{Spell, spell_of, spells_in, spells_of, with_last_shut}

pub same-turned : (c d : Card) → same_card c d ≡ same_card d c
same-turned A A = refl
same-turned A B = refl
same-turned B A = refl
same-turned B B = refl

-- the card of an insertion is this one
abbrev is_mine : Card → InsertionNote → Bool
is_mine c i = same_card c i.accepted.card

-- of one insertion and others
in-mine : (c : Card) (i : InsertionNote) (is : List InsertionNote) → same_card c i.accepted.card ≡ true → spells_in c (i ∷ is) ≡ spell_of i ∷ spells_in c is
in-mine c i is mine = ap (λ (b : Bool). map spell_of (cond b (i ∷ filter (is_mine c) is) (filter (is_mine c) is))) mine

in-others : (c : Card) (i : InsertionNote) (is : List InsertionNote) → same_card c i.accepted.card ≡ false → spells_in c (i ∷ is) ≡ spells_in c is
in-others c i is other = ap (λ (b : Bool). map spell_of (cond b (i ∷ filter (is_mine c) is) (filter (is_mine c) is))) other

-- ---- one more

mine-behind : (c : Card) (x : InsertionNote) (is : List InsertionNote) (i : InsertionNote) (b : Bool) → same_card c x.accepted.card ≡ b → spells_in c (is ++ i ∷ []) ≡ spells_in c is ++ spell_of i ∷ [] →
    spells_in c (x ∷ (is ++ i ∷ [])) ≡ spells_in c (x ∷ is) ++ spell_of i ∷ []
mine-behind c x is i true mine rest =
    in-mine c x (is ++ i ∷ []) mine ∙ ap (λ (l : List Spell). spell_of x ∷ l) rest ∙ sym (ap (λ (l : List Spell). l ++ spell_of i ∷ []) (in-mine c x is mine))
mine-behind c x is i false other rest =
    in-others c x (is ++ i ∷ []) other ∙ rest ∙ sym (ap (λ (l : List Spell). l ++ spell_of i ∷ []) (in-others c x is other))

mine-more : (c : Card) (is : List InsertionNote) (i : InsertionNote) → same_card c i.accepted.card ≡ true → spells_in c (is ++ i ∷ []) ≡ spells_in c is ++ spell_of i ∷ []
mine-more c [] i mine = in-mine c i [] mine
mine-more c (x ∷ is) i mine = mine-behind c x is i (same_card c x.accepted.card) refl (mine-more c is i mine)

-- behind one, the same of both
same-behind : (c : Card) (x : InsertionNote) (xs ys : List InsertionNote) (b : Bool) → same_card c x.accepted.card ≡ b → spells_in c xs ≡ spells_in c ys → spells_in c (x ∷ xs) ≡ spells_in c (x ∷ ys)
same-behind c x xs ys true mine rest = in-mine c x xs mine ∙ ap (λ (l : List Spell). spell_of x ∷ l) rest ∙ sym (in-mine c x ys mine)
same-behind c x xs ys false other rest = in-others c x xs other ∙ rest ∙ sym (in-others c x ys other)

others-more : (c : Card) (is : List InsertionNote) (i : InsertionNote) → same_card c i.accepted.card ≡ false → spells_in c (is ++ i ∷ []) ≡ spells_in c is
others-more c [] i other = in-others c i [] other
others-more c (x ∷ is) i other = same-behind c x (is ++ i ∷ []) is (same_card c x.accepted.card) refl (others-more c is i other)

-- ---- a withdrawal

abbrev later_one : Withdrawal → List InsertionNote → Bool
later_one w later = list_any (λ (j : InsertionNote). same_card j.accepted.card w.card) later

-- by whether it is of this insertion, and whether of a later one
goes-so : (w : Withdrawal) (i : InsertionNote) (later : List InsertionNote) (mine some : Bool) → same_card i.accepted.card w.card ≡ mine → later_one w later ≡ some →
    with_withdrawal w (i ∷ later) ≡ cond (mine && not some) (record i { withdrawn = Some w.second } ∷ later) (i ∷ with_withdrawal w later)
goes-so w i later mine some m s =
    ap (λ (b : Bool). cond (b && not (later_one w later)) (record i { withdrawn = Some w.second } ∷ later) (i ∷ with_withdrawal w later)) m
    ∙ ap (λ (b : Bool). cond (mine && not b) (record i { withdrawn = Some w.second } ∷ later) (i ∷ with_withdrawal w later)) s

-- none of a card
none-behind : (w : Withdrawal) (i : InsertionNote) (is : List InsertionNote) (b : Bool) → same_card i.accepted.card w.card ≡ b → (b || later_one w is) ≡ false → (later_one w is ≡ false → spells_in w.card is ≡ []) → spells_in w.card (i ∷ is) ≡ []
none-behind w i is true mine empty rest = absurd (let wrong : true ≡ false = empty in cc)
none-behind w i is false other empty rest = in-others w.card i is (same-turned w.card i.accepted.card ∙ other) ∙ rest empty

none-in : (w : Withdrawal) (is : List InsertionNote) → later_one w is ≡ false → spells_in w.card is ≡ []
none-in w [] none = refl
none-in w (i ∷ is) none = none-behind w i is (same_card i.accepted.card w.card) refl none (none-in w is)

-- where a later one is of a card the last of a longer list is its own
longer-behind : (b : Spell) (w : Withdrawal) (i : InsertionNote) (is : List InsertionNote) (m : Bool) → same_card i.accepted.card w.card ≡ m → (m || later_one w is) ≡ true →
    (later_one w is ≡ true → with_last_shut w.second (b ∷ spells_in w.card is) ≡ b ∷ with_last_shut w.second (spells_in w.card is)) → with_last_shut w.second (b ∷ spells_in w.card (i ∷ is)) ≡ b ∷ with_last_shut w.second (spells_in w.card (i ∷ is))
longer-behind b w i is true mine any rest =
    let one = in-mine w.card i is (same-turned w.card i.accepted.card ∙ mine) in
    ap (λ (l : List Spell). with_last_shut w.second (b ∷ l)) one ∙ sym (ap (λ (l : List Spell). b ∷ with_last_shut w.second l) one)
longer-behind b w i is false other any rest =
    let one = in-others w.card i is (same-turned w.card i.accepted.card ∙ other) in
    ap (λ (l : List Spell). with_last_shut w.second (b ∷ l)) one ∙ rest any ∙ sym (ap (λ (l : List Spell). b ∷ with_last_shut w.second l) one)

longer-last : (b : Spell) (w : Withdrawal) (is : List InsertionNote) → later_one w is ≡ true → with_last_shut w.second (b ∷ spells_in w.card is) ≡ b ∷ with_last_shut w.second (spells_in w.card is)
longer-last b w [] some = absurd (let wrong : false ≡ true = some in cc)
longer-last b w (i ∷ is) some = longer-behind b w i is (same_card i.accepted.card w.card) refl some (longer-last b w is)

-- THE LAST INSERTION of its card is withdrawn
mine-withdrawn-by : (w : Withdrawal) (i : InsertionNote) (is : List InsertionNote) (m s : Bool) → same_card i.accepted.card w.card ≡ m → later_one w is ≡ s → spells_in w.card (with_withdrawal w is) ≡ with_last_shut w.second (spells_in w.card is) →
    spells_in w.card (with_withdrawal w (i ∷ is)) ≡ with_last_shut w.second (spells_in w.card (i ∷ is))
mine-withdrawn-by w i is true false m s rest =
    let mine = same-turned w.card i.accepted.card ∙ m in
    let none = none-in w is s in
    let shut : InsertionNote = record i { withdrawn = Some w.second } in
    ap (spells_in w.card) (goes-so w i is true false m s) ∙ in-mine w.card shut is mine ∙ ap (λ (l : List Spell). spell_of shut ∷ l) none
    ∙ sym (ap (with_last_shut w.second) (in-mine w.card i is mine ∙ ap (λ (l : List Spell). spell_of i ∷ l) none))
mine-withdrawn-by w i is true true m s rest =
    let mine = same-turned w.card i.accepted.card ∙ m in
    ap (spells_in w.card) (goes-so w i is true true m s) ∙ in-mine w.card i (with_withdrawal w is) mine ∙ ap (λ (l : List Spell). spell_of i ∷ l) rest
    ∙ sym (longer-last (spell_of i) w is s) ∙ sym (ap (with_last_shut w.second) (in-mine w.card i is mine))
mine-withdrawn-by w i is false s m s_ rest =
    let other = same-turned w.card i.accepted.card ∙ m in
    ap (spells_in w.card) (goes-so w i is false s m s_) ∙ in-others w.card i (with_withdrawal w is) other ∙ rest ∙ sym (ap (with_last_shut w.second) (in-others w.card i is other))

mine-withdrawn : (w : Withdrawal) (is : List InsertionNote) → spells_in w.card (with_withdrawal w is) ≡ with_last_shut w.second (spells_in w.card is)
mine-withdrawn w [] = refl
mine-withdrawn w (i ∷ is) = mine-withdrawn-by w i is (same_card i.accepted.card w.card) (later_one w is) refl refl (mine-withdrawn w is)

-- and none of another card
not-mine : (x y z : Card) → same_card y z ≡ true → same_card x z ≡ false → same_card x y ≡ false
not-mine A A z h k = absurd (let wrong : true ≡ false = sym h ∙ k in cc)
not-mine B B z h k = absurd (let wrong : true ≡ false = sym h ∙ k in cc)
not-mine A B z h k = refl
not-mine B A z h k = refl

others-withdrawn-by : (c : Card) (w : Withdrawal) (i : InsertionNote) (is : List InsertionNote) → same_card c w.card ≡ false → (m s : Bool) → same_card i.accepted.card w.card ≡ m → later_one w is ≡ s →
    spells_in c (i ∷ with_withdrawal w is) ≡ spells_in c (i ∷ is) → spells_in c (with_withdrawal w (i ∷ is)) ≡ spells_in c (i ∷ is)
others-withdrawn-by c w i is other true false m s rest =
    let out = not-mine c i.accepted.card w.card m other in
    ap (spells_in c) (goes-so w i is true false m s) ∙ in-others c (record i { withdrawn = Some w.second }) is out ∙ sym (in-others c i is out)
others-withdrawn-by c w i is other true true m s rest = ap (spells_in c) (goes-so w i is true true m s) ∙ rest
others-withdrawn-by c w i is other false s m s_ rest = ap (spells_in c) (goes-so w i is false s m s_) ∙ rest

others-withdrawn : (c : Card) (w : Withdrawal) (is : List InsertionNote) → same_card c w.card ≡ false → spells_in c (with_withdrawal w is) ≡ spells_in c is
others-withdrawn c w [] other = refl
others-withdrawn c w (i ∷ is) other =
    others-withdrawn-by c w i is other (same_card i.accepted.card w.card) (later_one w is) refl refl (same-behind c i (with_withdrawal w is) is (same_card c i.accepted.card) refl (others-withdrawn c w is other))

-- ---- by the notes

pub one-more : (notes : List Note) (n : Note) → insertions_of (notes ++ n ∷ []) ≡ with_note (insertions_of notes) n
one-more notes n = fold-append with_note [] notes (n ∷ [])

pub accepts-more : (c : Card) (notes : List Note) (a : Acceptance) → same_card c a.card ≡ true → spells_of c (notes ++ Accepts a ∷ []) ≡ spells_of c notes ++ record { second = a.second; slot = a.slot; withdrawn = None } ∷ []
accepts-more c notes a mine = ap (spells_in c) (one-more notes (Accepts a)) ∙ mine-more c (insertions_of notes) (record { accepted = a; withdrawn = None }) mine

pub accepts-others : (c : Card) (notes : List Note) (a : Acceptance) → same_card c a.card ≡ false → spells_of c (notes ++ Accepts a ∷ []) ≡ spells_of c notes
accepts-others c notes a other = ap (spells_in c) (one-more notes (Accepts a)) ∙ others-more c (insertions_of notes) (record { accepted = a; withdrawn = None }) other

pub withdraws-last : (notes : List Note) (w : Withdrawal) → spells_of w.card (notes ++ Withdraws w ∷ []) ≡ with_last_shut w.second (spells_of w.card notes)
withdraws-last notes w = ap (spells_in w.card) (one-more notes (Withdraws w)) ∙ mine-withdrawn w (insertions_of notes)

pub withdraws-others : (c : Card) (notes : List Note) (w : Withdrawal) → same_card c w.card ≡ false → spells_of c (notes ++ Withdraws w ∷ []) ≡ spells_of c notes
withdraws-others c notes w other = ap (spells_in c) (one-more notes (Withdraws w)) ∙ others-withdrawn c w (insertions_of notes) other

pub enters-same : (c : Card) (notes : List Note) (p : PlaceNote) → spells_of c (notes ++ Enters p ∷ []) ≡ spells_of c notes
enters-same c notes p = ap (spells_in c) (one-more notes (Enters p))
