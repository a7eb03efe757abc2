-- An entry is put for a card that was present, before its minute is kept by the unit: all that is carried goes on.
use Rattle.std.proofs.Common.{◌≡◌, ◌≢◌, ◌∙◌, ℕ, ◌<◌, ◌≤◌, Bool, true, false, Option, Some, None, IfSome, is_some, List, [], ◌∷◌, Contains, refl, ap, subst, sym}
use Rattle.activity_codec.specs.declared.entries.Entry.{Entry}
use Rattle.trace_model.specs.declared.Card.{Card}
use Rattle.trace_model.specs.declared.Card.TheVariants.{A, B}
use Rattle.tach_media.specs.Medium.{State, IsCoherent, HasCause}
use Rattle.tacho_types.specs.declared.card_number.FullCardNumber.{FullCardNumber}
use Rattle.tacho_types.specs.CardNumber.{card_number_bytes}
use Rattle.unit_minutes.specs.unit_owed.Rows.{IsRowAt}
use Rattle.log_model.specs.declared.lines.Mark.{Mark}
use Rattle.hand_model.specs.card_image.Own.{IsOwnValid}
use Rattle.run_devices.specs.history_model.Presence.{CardStart}
use Rattle.run_devices.specs.history_model.Book.{Book}
use Rattle.run_devices.specs.device_rule.Views.{other}
use Rattle.run_devices.specs.device_rule.Rules.{Standing, IsPresent, CardDark, CardRule}
use Rattle.run_devices.specs.device_rule.Marked.{of_card, HasBrought}
use Rattle.run_devices.specs.safety_model.Safe.{card_of}
use Rattle.device_calls.specs.unit_rule.Rule.{Started, once_mended, IsCards}
use Rattle.device_calls.specs.unit_rule.Marks.{UnitFollowsBook}
use Rattle.device_calls.proofs.unit_rule.Marking.{holds-dark}
use Rattle.device_calls.specs.Rule.{Both, opened, number_of, CardHolds, IsKeptUp}
use Rattle.device_calls.proofs.EntryOwed.{worked}
use Rattle.run_events.specs.Entries.{number_or_no_card}
use Rattle.run_crew.specs.declared.cards.Cards.{Cards}
use Rattle.run_crew.specs.declared.cards.Known.{Known}
use Rattle.run_crew.specs.Cards.{known_of}
use Rattle.run_devices.specs.run_promise.Found.{Found, found_of, unit_seen, AnyKept}
use Rattle.run_devices.specs.run_promise.Between.{RunLedger, devices}
use Rattle.run_devices.specs.Told.{AreFoundCards, owes_nothing, AllGo, IsLitWith, DevicesUnpowered}
use Rattle.run_devices.proofs.Parts.{both_of, as-steps, of-steps, of-rests, brought-on, CardOff, powerless-of}
use Rattle.run_minutes.specs.Keeping.{HasItsRow}
use Rattle.run_minutes.specs.Owing.{and_put, MayPut, IsPutOrCut, BooksPut}

-- of each card, where it is so of one and of the other
pub each-card : (P : Card → Type 0) (c : Card) → P c → P (other c) → (k : Card) → P k
each-card P A one rest A = one
each-card P A one rest B = rest
each-card P B one rest A = rest
each-card P B one rest B = one

-- the steps know a card by its number and its start
pub number-same : (f : Found) (two : f.card_a.number ≢ f.card_b.number) (c : Card) → (found_of f c).number ≡ number_of (both_of f two) c
number-same f two A = refl
number-same f two B = refl

pub start-same : (f : Found) (two : f.card_a.number ≢ f.card_b.number) (c : Card) → (found_of f c).start ≡ (opened (both_of f two) c).start
start-same f two A = refl
start-same f two B = refl

-- a number that was told
pub number-told : (o : Option FullCardNumber) (n : FullCardNumber) (number : List ℕ) → o ≡ Some n → IfSome o (λ n. card_number_bytes n ≡ number) → card_number_bytes (number_or_no_card o) ≡ number
number-told (Some m) n number is said = said
number-told None n number is said = absurd (empty is)
  where
    empty : None ≡ Some n → ⊥
    empty e = cc

-- its row in the unit is the one that is known
pub row-known : (cards : Cards) (U : State) (c : Card) (known : Known) (number : FullCardNumber) → HasItsRow cards U c → known ≡ known_of cards c → number ≡ number_or_no_card known.number → (known.row < 8) × IfSome U.image (IsRowAt known.row (card_number_bytes number))
row-known cards U c known number h is named =
    let same : number ≡ h.number = named ∙ ap (λ (k : Known). number_or_no_card k.number) is ∙ ap number_or_no_card h.told in (
      subst (λ (k : Known). k.row < 8) (sym is) h.low,
      subst (λ (k : Known). IfSome U.image (IsRowAt k.row (card_number_bytes number))) (sym is) (subst (λ (n : FullCardNumber). IfSome U.image (IsRowAt (known_of cards c).row (card_number_bytes n))) (sym same) h.row),
    )

-- where it is put
put-here : (c : Card) (e : Entry) (puts : Card → List Entry) → and_put (Some c) e puts c ≡ e ∷ []
put-here A e puts = refl
put-here B e puts = refl

put-there : (c : Card) (e : Entry) (puts : Card → List Entry) → and_put (Some c) e puts (other c) ≡ puts (other c)
put-there A e puts = refl
put-there B e puts = refl

-- what putting an entry says of the card, and of the other one
abbrev pub OwesMine : (number : List ℕ) (e : Entry) (failed : Bool) (c : Card) (U V X : State) → Type 0
OwesMine number e failed c U V X = (r : Both) (s : Started) (due : ℕ) (b : Book) (marks : List Mark) (z : Standing) → number ≡ number_of r c → UnitFollowsBook s due b marks U → due ≤ e.minute → 1440 ≤ e.minute → IsPresent (opened r c).start z e.minute
    → CardHolds r c b z [] [] U X → IsKeptUp r c b z (e ∷ []) [] failed V X

abbrev pub OwesOther : (number : List ℕ) (e : Entry) (failed : Bool) (c : Card) (U V X Y : State) → Type 0
OwesOther number e failed c U V X Y = (r : Both) (s : Started) (due : ℕ) (b : Book) (marks : List Mark) (y z : Standing) (m d : List Entry) → number ≡ number_of r c → UnitFollowsBook s due b marks U → due ≤ e.minute → 1440 ≤ e.minute
    → CardHolds r c b y [] [] U X → CardHolds r (other c) b z m d U Y → IsKeptUp r (other c) b z m d failed V Y

module _ (f : Found) (cards : Cards) (found : AreFoundCards f cards) (w : RunLedger) (puts : Card → List Entry) (c : Card) (e : Entry) (number : List ℕ) (named : number ≡ (found_of f c).number) (failed : Bool) (U V X Y : State) (whole : IsCoherent U)
    (h : IsLitWith f w puts owes_nothing (devices U X Y)) (go : AllGo f w owes_nothing cards (devices U X Y)) (may : MayPut f (Some c) e w puts) (tells : is_some V.image ≡ is_some U.image) (cause : HasCause U V failed)
    (holds : (s : Started) (due : ℕ) (b : Book) (marks : List Mark) → IsCards s number → UnitFollowsBook s due b marks U → UnitFollowsBook s due b marks V)
    (mine : OwesMine number e failed c U V (card_of (devices U X Y) c)) (others : OwesOther number e failed c U V (card_of (devices U X Y) c) (card_of (devices U X Y) (other c))) where
  abbrev r : Both
  r = both_of f found.two

  abbrev card : Card → State
  card k = card_of (devices U X Y) k

  is : number ≡ number_of r c
  is = named ∙ number-same f found.two c

  unit-after : UnitFollowsBook (once_mended f.unit) w.due w.book w.marks V
  unit-after = holds (once_mended f.unit) w.due w.book w.marks (subst (IsCards f.unit) (sym named) (found.own c may.0)) h.unit

  here : CardHolds r c w.book (w.standing c) [] [] U (card c)
  here = as-steps f found.two c w.book (w.standing c) [] [] U (card c)
      (subst (λ (es : List Entry). CardRule c (found_of f c).start AnyKept (found_of f c).began w.book (w.standing c) es [] (unit_seen f U) (of_card (card c))) may.1 (h.rules c may.0))

  own : IsKeptUp r c w.book (w.standing c) (e ∷ []) [] failed V (card c)
  own = mine r (once_mended f.unit) w.due w.book w.marks (w.standing c) is h.unit may.2 may.3 (subst (λ (s : CardStart). IsPresent s (w.standing c) e.minute) (start-same f found.two c) may.4) here

  rest : IsOwnValid (found_of f (other c)).image → IsKeptUp r (other c) w.book (w.standing (other c)) (puts (other c)) [] failed V (card (other c))
  rest valid = others r (once_mended f.unit) w.due w.book w.marks (w.standing c) (w.standing (other c)) (puts (other c)) [] is h.unit may.2 may.3 here
      (as-steps f found.two (other c) w.book (w.standing (other c)) (puts (other c)) [] U (card (other c)) (h.rules (other c) valid))

  dark : (k : Card) → IsOwnValid (found_of f k).image → CardDark k (found_of f k).start AnyKept (found_of f k).began w.book (w.standing k) (unit_seen f V) (of_card (card k))
  dark = each-card (λ k. IsOwnValid (found_of f k).image → CardDark k (found_of f k).start AnyKept (found_of f k).began w.book (w.standing k) (unit_seen f V) (of_card (card k))) c
      (λ valid. of-rests f found.two c w.book (w.standing c) V (card c) own.dark)
      (λ valid. of-rests f found.two (other c) w.book (w.standing (other c)) V (card (other c)) (rest valid).dark)

  brought : (k : Card) → IsOwnValid (found_of f k).image → (m : ℕ) → Contains (w.brought k) m → HasBrought f.card_a.number f.card_b.number k m V (card k)
  brought k valid m in_ = brought-on f k m w.book (w.standing k) (w.standing k) (once_mended f.unit) w.due w.marks U V (card k) whole h.tells h.unit h.none (h.rules k valid).dark (dark k valid) (h.brought k valid m in_)

  rules : failed ≡ false → (k : Card) → IsOwnValid (found_of f k).image → CardRule k (found_of f k).start AnyKept (found_of f k).began w.book (w.standing k) (and_put (Some c) e puts k) [] (unit_seen f V) (of_card (card k))
  rules well = each-card (λ k. IsOwnValid (found_of f k).image → CardRule k (found_of f k).start AnyKept (found_of f k).began w.book (w.standing k) (and_put (Some c) e puts k) [] (unit_seen f V) (of_card (card k))) c
      (λ valid. subst (λ (es : List Entry). CardRule c (found_of f c).start AnyKept (found_of f c).began w.book (w.standing c) es [] (unit_seen f V) (of_card (card c))) (sym (put-here c e puts))
      (of-steps f found.two c w.book (w.standing c) (e ∷ []) [] V (card c) (own.lit well)))
      (λ valid. subst (λ (es : List Entry). CardRule (other c) (found_of f (other c)).start AnyKept (found_of f (other c)).began w.book (w.standing (other c)) es [] (unit_seen f V) (of_card (card (other c)))) (sym (put-there c e puts))
      (of-steps f found.two (other c) w.book (w.standing (other c)) (puts (other c)) [] V (card (other c)) ((rest valid).lit well)))

  lit : failed ≡ false → IsLitWith f w (and_put (Some c) e puts) owes_nothing (devices V X Y)
  lit well = record {
    tells = tells ∙ h.tells;
    works = (worked well cause).0;
    unit = unit-after;
    none = h.none;
    rules = rules well;
    valid = h.valid;
    rises = h.rises;
    brought = brought;
    marks = h.marks;
    hands = h.hands;
  }

  off : (k : Card) → IsOwnValid (found_of f k).image → CardOff f w.book (w.standing k) (w.hands k) (w.firsts k) (w.brought k) k V (card k)
  off k valid = record { rests = dark k valid; valid = h.valid k valid; rises = h.rises k valid; brought = brought k valid; held = go.held k valid; hands = h.hands k valid }

  cut : DevicesUnpowered f w (devices V X Y)
  cut = powerless-of f w cards A V X Y found (record {
    tells = tells ∙ h.tells;
    unit = holds-dark f.unit w.due w.book w.marks V unit-after;
    none = h.none;
    mine = off A;
    others = off B;
    marks_mine = h.marks A;
    marks_others = h.marks B;
  })

  pub put-or-cut : IsPutOrCut failed f w (and_put (Some c) e puts) (devices V X Y)
  put-or-cut = by failed refl
    where
      by : (b : Bool) → failed ≡ b → IsPutOrCut b f w (and_put (Some c) e puts) (devices V X Y)
      by false well = lit well
      by true bad = cut

module _ (present : Option Card) (cards : Cards) (e : Entry) (number : List ℕ) (failed : Bool) (U V X Y : State) (whole : IsCoherent U) (row : IfSome present (HasItsRow cards U)) (tells : is_some V.image ≡ is_some U.image) (cause : HasCause U V failed)
    (holds : (s : Started) (due : ℕ) (b : Book) (marks : List Mark) → IsCards s number → UnitFollowsBook s due b marks U → UnitFollowsBook s due b marks V) where
  books : (c : Card) → present ≡ Some c → number ≡ card_number_bytes (number_or_no_card (known_of cards c).number) → OwesMine number e failed c U V (card_of (devices U X Y) c)
      → OwesOther number e failed c U V (card_of (devices U X Y) c) (card_of (devices U X Y) (other c)) → BooksPut present e failed cards (devices U X Y) (devices V X Y)
  books c is told mine others = subst (λ (o : Option Card). BooksPut o e failed cards (devices U X Y) (devices V X Y)) (sym is) (λ f w puts found may lit go.
      let has : HasItsRow cards U c = subst (λ (o : Option Card). IfSome o (HasItsRow cards U)) is row in
      put-or-cut f cards found w puts c e number (told ∙ number-told (known_of cards c).number has.number (found_of f c).number has.told (found.named c may.0)) failed U V X Y whole lit go may tells cause holds mine others)

  -- the card is the one or the other
  pub books-put-a : (k : Card) → present ≡ Some k → k ≡ A → number ≡ card_number_bytes (number_or_no_card (known_of cards k).number) → OwesMine number e failed k U V X → OwesOther number e failed k U V X Y → BooksPut present e failed cards (devices U X Y) (devices V X Y)
  books-put-a k here is told mine others = books A (here ∙ ap (λ (c : Card). Some c) is) (subst (λ (c : Card). number ≡ card_number_bytes (number_or_no_card (known_of cards c).number)) is told)
      (subst (λ (c : Card). OwesMine number e failed c U V X) is mine) (subst (λ (c : Card). OwesOther number e failed c U V X Y) is others)

  pub books-put-b : (k : Card) → present ≡ Some k → k ≡ B → number ≡ card_number_bytes (number_or_no_card (known_of cards k).number) → OwesMine number e failed k U V Y → OwesOther number e failed k U V Y X → BooksPut present e failed cards (devices U X Y) (devices V X Y)
  books-put-b k here is told mine others = books B (here ∙ ap (λ (c : Card). Some c) is) (subst (λ (c : Card). number ≡ card_number_bytes (number_or_no_card (known_of cards c).number)) is told)
      (subst (λ (c : Card). OwesMine number e failed c U V Y) is mine) (subst (λ (c : Card). OwesOther number e failed c U V Y X) is others)
