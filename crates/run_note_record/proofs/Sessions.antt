-- What is carried of the sessions of the cards, over each step.
use Rattle.std.proofs.Common.{◌≡◌, ◌∙◌, ◌⊎◌, inl, inr, ⊎_elim, ℕ, suc, ◌<◌, Bool, true, false, not, ◌&&◌, List, [], ◌∷◌, ◌++◌, Contains, fold, refl, sym, subst, arith}
use Rattle.std.specs.List.{AllByRecursion}
use Rattle.std.proofs.lemmas.List.Sums.{fold-append}
use Rattle.std.proofs.lemmas.List.Elements.{Contains-append_left, Contains-push, Contains-push_cases}
use Rattle.run_devices.specs.trace_model.declared.Card.{Card}
use Rattle.tach_media.specs.card_layout.declared.files.Application.{Application}
use Rattle.run_devices.specs.card_image.Fields.{session_time}
use Rattle.run_devices.specs.card_image.Own.{own_sizes}
use Rattle.run_devices.specs.log_model.Log.{RunLog}
use Rattle.run_devices.specs.log_model.Slots.{same_card}
use Rattle.run_devices.specs.note_model.Odometer.{SpanFrom}
use Rattle.run_devices.specs.note_model.Done.{has_failed_in}
use Rattle.run_devices.specs.note_model.Noted.{Acceptance, Withdrawal, PlaceNote, Note, Accepts, Withdraws, Enters}
use Rattle.run_devices.specs.safety_model.Recording.{card_image}
use Rattle.run_devices.specs.safety_model.Safe.{Devices, card_of}
use Rattle.run_devices.specs.Sessions.{SessionGoes}
use Rattle.run_devices.proofs.Measured.{goes-more}
use Rattle.run_devices.proofs.Sessions.{session-more}
use Rattle.run_note_record.specs.Origin.{Origin}
use Rattle.run_note_record.specs.OnCards.{has_call_failed_in, IsReadingOf, VehiclesGo, SessionsGo, NoOtherComes, CardsGo, CardsStay}
use Rattle.run_note_record.specs.RingsSoFar.{AreEarlier}
use Rattle.run_note_record.specs.Moved.{Move, goes_in, goes_out, IsPutIn}
use Rattle.run_note_record.specs.Sessions.{is_opened_by, is_shut_by, accepted_then, withdrawn_then, told_with, told_on, IsNotBefore, HasFailedSince, MayLeave, IsBrokenSince, MayTell, session_told, SessionsOnCards, FailsIn, OpensIn, Ends, EndsIf, Opens, Shuts}
use Rattle.run_note_record.proofs.Stands.{all-of, all-push}
use Rattle.run_note_record.proofs.Readings.{reading-as}
use Rattle.run_note_record.proofs.Uses.{card-is}

-- ---- what it may tell

tell-next : (log : RunLog) (c : Card) (start : ℕ) (notes : List Note) (n : Note) → told_on log c start (notes ++ n ∷ []) ≡ told_with log c (told_on log c start notes) n
tell-next log c start notes n = fold-append (told_with log c) (start ∷ []) notes (n ∷ [])

-- no card was accepted or withdrawn so where a call failed in that second
not-sure : (m : Bool) → (m && not true) ≡ true → ⊥
not-sure true is = let wrong : false ≡ true = is in cc
not-sure false is = let wrong : false ≡ true = is in cc

first-holds : (m n : Bool) → (m && n) ≡ true → m ≡ true
first-holds true n is = refl
first-holds false n is = absurd (let wrong : false ≡ true = is in cc)

-- where more calls fail it is sure of fewer notes
sure-back : (m f g : Bool) → (f ≡ true → g ≡ true) → (m && not g) ≡ true → (m && not f) ≡ true
sure-back false f g then is = absurd (let wrong : false ≡ true = is in cc)
sure-back true false g then is = refl
sure-back true true g then is = absurd (let wrong : not true ≡ true = subst (λ (b : Bool). not b ≡ true) (then refl) is in not-sure true wrong)

-- what may be told behind an acceptance: that of before, where it is not sure; that one; and no less where more fails
accepted-was : (m f : Bool) (was : List ℕ) (u t : ℕ) → (m && not f) ≡ false → Contains was t → Contains (accepted_then m f was u) t
accepted-was false f was u t off at = at
accepted-was true false was u t off at = absurd (let wrong : true ≡ false = off in cc)
accepted-was true true was u t off at = Contains-append_left (was ++ 0 ∷ []) (u ∷ []) t (Contains-append_left was (0 ∷ []) t at)

accepted-came : (f : Bool) (was : List ℕ) (u : ℕ) → Contains (accepted_then true f was u) u
accepted-came false was u = Contains-push [] u
accepted-came true was u = Contains-push (was ++ 0 ∷ []) u

pushed-more : (was now : List ℕ) (u : ℕ) → ((t : ℕ) → Contains was t → Contains now t) → (t : ℕ) → Contains (was ++ u ∷ []) t → Contains (now ++ u ∷ []) t
pushed-more was now u more t at = ⊎_elim
    (λ before. Contains-append_left now (u ∷ []) t (more t before))
    (λ is. subst (λ (v : ℕ). Contains (now ++ u ∷ []) v) is (Contains-push now u))
    (Contains-push_cases was u t at)

accepted-none : (f : Bool) (was : List ℕ) (u : ℕ) → f ≡ true → Contains (accepted_then true f was u) 0
accepted-none true was u is = Contains-append_left (was ++ 0 ∷ []) (u ∷ []) 0 (Contains-push was 0)
accepted-none false was u is = absurd (let wrong : false ≡ true = is in cc)

accepted-more : (m f g : Bool) → (f ≡ true → g ≡ true) → (was now : List ℕ) (u : ℕ) → ((t : ℕ) → Contains was t → Contains now t) → (t : ℕ) → Contains (accepted_then m f was u) t → Contains (accepted_then m g now u) t
accepted-more false f g then was now u more t at = more t at
accepted-more true false false then was now u more t at = at
accepted-more true false true then was now u more t at = ⊎_elim
    (λ none. absurd (none-in t none))
    (λ is. subst (λ (v : ℕ). Contains ((now ++ 0 ∷ []) ++ u ∷ []) v) is (Contains-push (now ++ 0 ∷ []) u))
    (Contains-push_cases [] u t at)
  where
    none-in : (t : ℕ) → Contains [] t → ⊥
    none-in t at = let few = at.1 in omega (arith, few)
accepted-more true true false then was now u more t at = absurd (let wrong : false ≡ true = then refl in cc)
accepted-more true true true then was now u more t at = pushed-more (was ++ 0 ∷ []) (now ++ 0 ∷ []) u (pushed-more was now 0 more) t at

-- and behind a withdrawal
withdrawn-was : (m f : Bool) (was : List ℕ) (t : ℕ) → (m && not f) ≡ false → Contains was t → Contains (withdrawn_then m f was) t
withdrawn-was false f was t off at = at
withdrawn-was true false was t off at = absurd (let wrong : true ≡ false = off in cc)
withdrawn-was true true was t off at = Contains-append_left was (0 ∷ []) t at

withdrawn-none : (f : Bool) (was : List ℕ) → Contains (withdrawn_then true f was) 0
withdrawn-none false was = Contains-push [] 0
withdrawn-none true was = Contains-push was 0

withdrawn-more : (m f g : Bool) → (f ≡ true → g ≡ true) → (was now : List ℕ) → ((t : ℕ) → Contains was t → Contains now t) → (t : ℕ) → Contains (withdrawn_then m f was) t → Contains (withdrawn_then m g now) t
withdrawn-more false f g then was now more t at = more t at
withdrawn-more true false false then was now more t at = at
withdrawn-more true false true then was now more t at = ⊎_elim
    (λ none. absurd (let few = none.1 in omega (arith, few)))
    (λ is. subst (λ (v : ℕ). Contains (now ++ 0 ∷ []) v) is (Contains-push now 0))
    (Contains-push_cases [] 0 t at)
withdrawn-more true true false then was now more t at = absurd (let wrong : false ≡ true = then refl in cc)
withdrawn-more true true true then was now more t at = pushed-more was now 0 more t at

module _ (log later : RunLog) (failed : (u : ℕ) → has_failed_in log u ≡ true → has_failed_in later u ≡ true) (fell : (u : ℕ) → has_call_failed_in log u ≡ true → has_call_failed_in later u ≡ true) (c : Card) where
  -- so no fewer may be told
  tells-grow : (notes : List Note) (ts us : List ℕ) → ((t : ℕ) → Contains ts t → Contains us t) → (t : ℕ) → Contains (fold (told_with log c) ts notes) t → Contains (fold (told_with later c) us notes) t
  tells-grow [] ts us more t at = more t at
  tells-grow (Accepts a ∷ notes) ts us more t at =
      tells-grow notes (told_with log c ts (Accepts a)) (told_with later c us (Accepts a)) (accepted-more (same_card a.card c) (has_call_failed_in log a.second) (has_call_failed_in later a.second) (fell a.second) ts us a.second more) t at
  tells-grow (Withdraws w ∷ notes) ts us more t at =
      tells-grow notes (told_with log c ts (Withdraws w)) (told_with later c us (Withdraws w)) (withdrawn-more (same_card w.card c) (has_failed_in log w.second) (has_failed_in later w.second) (failed w.second) ts us more) t at
  tells-grow (Enters p ∷ notes) ts us more t at = tells-grow notes ts us more t at

  later-than : (u : ℕ) (n : Note) → IsNotBefore log c u n → IsNotBefore later c u n
  later-than u (Accepts a) h = λ is. h (sure-back (same_card a.card c) (has_call_failed_in log a.second) (has_call_failed_in later a.second) (fell a.second) is)
  later-than u (Withdraws w) h = λ is. h (sure-back (same_card w.card c) (has_failed_in log w.second) (has_failed_in later w.second) (failed w.second) is)
  later-than u (Enters p) h = tt

  broken-still : (moves : List Move) (notes : List Note) (t : ℕ) → IsBrokenSince moves log c notes t → IsBrokenSince moves later c notes t
  broken-still moves notes t h = (h.0, (fell h.0 h.1.0, all-of (IsNotBefore log c h.0) (IsNotBefore later c h.0) (later-than h.0) notes h.1.1), h.2)

  tell-still : (moves : List Move) (start : ℕ) (notes : List Note) (t : ℕ) → MayTell moves log c start notes t → MayTell moves later c start notes t
  tell-still moves start notes t may = ⊎_elim (λ here. inl (tells-grow notes (start ∷ []) (start ∷ []) (λ u at. at) t here)) (λ broken. inr (broken-still moves notes t broken)) may

-- where more cards were moved
leave-more : (ms ns : List Move) → ((m : Move) → Contains ms m → Contains ns m) → (c : Card) (u t : ℕ) → MayLeave ms c u t → MayLeave ns c u t
leave-more ms ns more c u t may = ⊎_elim (λ in_. inl (more (goes_in u c) in_.0, in_.1)) (λ out. inr (more (goes_out u c) out.0, out.1)) may

tell-more : (ms ns : List Move) → ((m : Move) → Contains ms m → Contains ns m) → (log : RunLog) (c : Card) (start : ℕ) (notes : List Note) (t : ℕ) → MayTell ms log c start notes t → MayTell ns log c start notes t
tell-more ms ns more log c start notes t may = ⊎_elim (λ here. inl here) (λ broken. inr (broken.0, broken.1, leave-more ms ns more c broken.0 t broken.2)) may

-- ---- ONE NOTE MORE

module _ (moves : List Move) (log : RunLog) (c : Card) (start : ℕ) (notes : List Note) (t : ℕ) where
  -- by what is told behind it
  tell-by : (n : Note) → (Contains (told_on log c start notes) t → Contains (told_with log c (told_on log c start notes) n) t) → ((u : ℕ) → IsNotBefore log c u n) → MayTell moves log c start notes t → MayTell moves log c start (notes ++ n ∷ []) t
  tell-by n then unsure may = ⊎_elim
      (λ here. inl (subst (λ (l : List ℕ). Contains l t) (sym (tell-next log c start notes n)) (then here)))
      (λ broken. inr (broken.0, (broken.1.0, all-push (IsNotBefore log c broken.0) notes n broken.1.1 (unsure broken.0)), broken.2))
      may

  tell-now : (n : Note) → Contains (told_with log c (told_on log c start notes) n) t → MayTell moves log c start (notes ++ n ∷ []) t
  tell-now n here = inl (subst (λ (l : List ℕ). Contains l t) (sym (tell-next log c start notes n)) here)

  -- an acceptance of the other card, or in a second in which a call failed
  tell-accepted : (a : Acceptance) → is_opened_by log c a ≡ false → MayTell moves log c start notes t → MayTell moves log c start (notes ++ Accepts a ∷ []) t
  tell-accepted a off = tell-by (Accepts a) (accepted-was (same_card a.card c) (has_call_failed_in log a.second) (told_on log c start notes) a.second t off) (λ u is. absurd (let clash : true ≡ false = sym is ∙ off in cc))

  -- which has opened this one
  tell-opened : (a : Acceptance) → same_card a.card c ≡ true → t ≡ a.second → MayTell moves log c start (notes ++ Accepts a ∷ []) t
  tell-opened a mine is =
      tell-now (Accepts a)
      (subst (λ (m : Bool). Contains (accepted_then m (has_call_failed_in log a.second) (told_on log c start notes) a.second) t) (sym mine)
      (subst (λ (u : ℕ). Contains (accepted_then true (has_call_failed_in log a.second) (told_on log c start notes) a.second) u) (sym is) (accepted-came (has_call_failed_in log a.second) (told_on log c start notes) a.second)))

  -- or a call failed in that second, and it has opened none
  tell-unopened : (a : Acceptance) → same_card a.card c ≡ true → t ≡ 0 → has_call_failed_in log a.second ≡ true → MayTell moves log c start (notes ++ Accepts a ∷ []) t
  tell-unopened a mine is failed =
      tell-now (Accepts a)
      (subst (λ (m : Bool). Contains (accepted_then m (has_call_failed_in log a.second) (told_on log c start notes) a.second) t) (sym mine)
      (subst (λ (u : ℕ). Contains (accepted_then true (has_call_failed_in log a.second) (told_on log c start notes) a.second) u) (sym is) (accepted-none (has_call_failed_in log a.second) (told_on log c start notes) a.second failed)))

  -- a withdrawal of the other card, or in a second in which a call on the unit failed
  tell-withdrawn : (w : Withdrawal) → is_shut_by log c w ≡ false → MayTell moves log c start notes t → MayTell moves log c start (notes ++ Withdraws w ∷ []) t
  tell-withdrawn w off = tell-by (Withdraws w) (withdrawn-was (same_card w.card c) (has_failed_in log w.second) (told_on log c start notes) t off) (λ u is. absurd (let clash : true ≡ false = sym is ∙ off in cc))

  -- which has ended it
  tell-ended : (w : Withdrawal) → same_card w.card c ≡ true → t ≡ 0 → MayTell moves log c start (notes ++ Withdraws w ∷ []) t
  tell-ended w mine is =
      tell-now (Withdraws w)
      (subst (λ (m : Bool). Contains (withdrawn_then m (has_failed_in log w.second) (told_on log c start notes)) t) (sym mine)
      (subst (λ (u : ℕ). Contains (withdrawn_then true (has_failed_in log w.second) (told_on log c start notes)) u) (sym is) (withdrawn-none (has_failed_in log w.second) (told_on log c start notes))))

  -- a place
  tell-entered : (p : PlaceNote) → MayTell moves log c start notes t → MayTell moves log c start (notes ++ Enters p ∷ []) t
  tell-entered p = tell-by (Enters p) (λ here. here) (λ u. tt)

-- an image goes on from another
goes-told : (moves : List Move) (log : RunLog) (c : Card) (start : ℕ) (notes : List Note) (app : Application) (May : ℕ → Type 0) (x y : List ℕ) → SessionGoes app May x y → MayTell moves log c start notes (session_time app x) → (May (session_time app y) → MayTell moves log c start notes (session_time app y)) → MayTell moves log c start notes (session_time app y)
goes-told moves log c start notes app May x y goes may came = ⊎_elim (λ same. subst (λ (t : ℕ). MayTell moves log c start notes t) (sym same) may) came goes

-- ---- OF THE CARDS

-- the session that its image at the start told
abbrev own : Origin → Card → ℕ
own o c = session_told (card_image o.recording c) (card_image o.recording c)

-- at the start
pub sessions-none : (o : Origin) (moves : List Move) (log : RunLog) (d : Devices) → ((c : Card) (x : List ℕ) → (card_of d c).may_leave x → x ≡ card_image o.recording c) → SessionsOnCards o moves log [] d
sessions-none o moves log d start c valid x left =
    subst (λ (y : List ℕ). MayTell moves log c (own o c) [] (session_told (card_image o.recording c) y)) (sym (start c x left)) (inl (Contains-push [] (own o c)))

-- where more cards were moved
pub sessions-moved : (o : Origin) (ms ns : List Move) → ((m : Move) → Contains ms m → Contains ns m) → (log : RunLog) (notes : List Note) (d : Devices) → SessionsOnCards o ms log notes d → SessionsOnCards o ns log notes d
sessions-moved o ms ns more log notes d v c valid x left = tell-more ms ns more log c (own o c) notes (session_told (card_image o.recording c) x) (v c valid x left)

-- no call
pub sessions-itself : (o : Origin) (May : Card → ℕ → Type 0) (d : Devices) → SessionsGo o May d d
sessions-itself o May d c valid y left = (y, left, inl refl)

-- more may come
pub sessions-more : (o : Origin) (May Now : Card → ℕ → Type 0) (d e : Devices) → ((c : Card) (t : ℕ) → May c t → Now c t) → SessionsGo o May d e → SessionsGo o Now d e
sessions-more o May Now d e more goes c valid y left =
    let w = goes c valid y left in
    (w.0, w.1, session-more (own_sizes (card_image o.recording c)) (May c) (Now c) (more c) w.0 y w.2)

vehicles-more : (o : Origin) (spans : List SpanFrom) (May Now : Card → ℕ → Type 0) (d e : Devices) → ((c : Card) (t : ℕ) → May c t → Now c t) → VehiclesGo o spans May d e → VehiclesGo o spans Now d e
vehicles-more o spans May Now d e more goes c valid y left =
    let w = goes c valid y left in
    (w.0, w.1, goes-more (own_sizes (card_image o.recording c)) (IsReadingOf spans (May c)) (IsReadingOf spans (Now c)) (reading-as spans spans (May c) (Now c) (λ u n is. is) (λ u some. more c u)) w.0 y w.2)

pub go-more : (o : Origin) (spans : List SpanFrom) (May Now : Card → ℕ → Type 0) (d e : Devices) → ((c : Card) (t : ℕ) → May c t → Now c t) → CardsGo o spans May d e → CardsGo o spans Now d e
go-more o spans May Now d e more cards = record { places = cards.places; vehicles = vehicles-more o spans May Now d e more cards.vehicles; sessions = sessions-more o May Now d e more cards.sessions }

pub stay-may : (o : Origin) (spans : List SpanFrom) (May : Card → ℕ → Type 0) (d e : Devices) → CardsStay o spans d e → CardsGo o spans May d e
stay-may o spans May d e cards = go-more o spans NoOtherComes May d e (λ c t none. absurd none) cards

-- as a log goes on
pub sessions-go : (o : Origin) (moves : List Move) (log later : RunLog) (notes : List Note) (d e : Devices) → ((u : ℕ) → has_failed_in log u ≡ true → has_failed_in later u ≡ true) → ((u : ℕ) → has_call_failed_in log u ≡ true → has_call_failed_in later u ≡ true) → SessionsGo o (λ c t. IsBrokenSince moves later c notes t) d e → SessionsOnCards o moves log notes d → SessionsOnCards o moves later notes e
sessions-go o moves log later notes d e failed fell goes v c valid y left =
    let w = goes c valid y left in
    let start : ℕ = session_told (card_image o.recording c) (card_image o.recording c) in
    goes-told moves later c start notes (own_sizes (card_image o.recording c)) (λ t. IsBrokenSince moves later c notes t) w.0 y w.2
    (tell-still log later failed fell c moves start notes (session_told (card_image o.recording c) w.0) (v c valid w.0 w.1)) (λ broken. inr broken)

-- a card is accepted
pub sessions-accepted : (o : Origin) (moves : List Move) (log : RunLog) (notes : List Note) (a : Acceptance) (d e : Devices) → SessionsGo o (OpensIn log a) d e → Opens o log a e → SessionsOnCards o moves log notes d → SessionsOnCards o moves log (notes ++ Accepts a ∷ []) e
sessions-accepted o moves log notes a d e goes opens v c valid y left = by (is_opened_by log c a) refl
  where
    by : (b : Bool) → is_opened_by log c a ≡ b → MayTell moves log c (own o c) (notes ++ Accepts a ∷ []) (session_told (card_image o.recording c) y)
    by true is = tell-opened moves log c (own o c) notes (session_told (card_image o.recording c) y) a (first-holds (same_card a.card c) (not (has_call_failed_in log a.second)) is) (opens c valid is y left)
    by false is =
        let w = goes c valid y left in
        goes-told moves log c (own o c) (notes ++ Accepts a ∷ []) (own_sizes (card_image o.recording c)) (OpensIn log a c) w.0 y w.2
        (tell-accepted moves log c (own o c) notes (session_told (card_image o.recording c) w.0) a is (v c valid w.0 w.1))
        (λ came. ⊎_elim
        (λ mine. tell-opened moves log c (own o c) notes (session_told (card_image o.recording c) y) a came.0 mine)
        (λ none. tell-unopened moves log c (own o c) notes (session_told (card_image o.recording c) y) a came.0 none.0 none.1)
        came.1)

-- or a call failed in that second
pub opens-none : (o : Origin) (log : RunLog) (a : Acceptance) (e : Devices) → has_call_failed_in log a.second ≡ true → Opens o log a e
opens-none o log a e has c valid is y left = absurd (not-sure (same_card a.card c) (subst (λ (b : Bool). (same_card a.card c && not b) ≡ true) has is))

-- a card is withdrawn
pub sessions-withdrawn : (o : Origin) (moves : List Move) (log : RunLog) (notes : List Note) (w : Withdrawal) (d e : Devices) → SessionsGo o (Ends w.card) d e → Shuts o log w e → SessionsOnCards o moves log notes d → SessionsOnCards o moves log (notes ++ Withdraws w ∷ []) e
sessions-withdrawn o moves log notes w d e goes shuts v c valid y left = by (is_shut_by log c w) refl
  where
    by : (b : Bool) → is_shut_by log c w ≡ b → MayTell moves log c (own o c) (notes ++ Withdraws w ∷ []) (session_told (card_image o.recording c) y)
    by true is = tell-ended moves log c (own o c) notes (session_told (card_image o.recording c) y) w (first-holds (same_card w.card c) (not (has_failed_in log w.second)) is) (shuts c valid is y left)
    by false is =
        let i = goes c valid y left in
        goes-told moves log c (own o c) (notes ++ Withdraws w ∷ []) (own_sizes (card_image o.recording c)) (Ends w.card c) i.0 y i.2
        (tell-withdrawn moves log c (own o c) notes (session_told (card_image o.recording c) i.0) w is (v c valid i.0 i.1))
        (λ ended. tell-ended moves log c (own o c) notes (session_told (card_image o.recording c) y) w ended.0 ended.1)

-- or a call on the unit failed in that second
pub shuts-none : (o : Origin) (log : RunLog) (w : Withdrawal) (e : Devices) → has_failed_in log w.second ≡ true → Shuts o log w e
shuts-none o log w e has c valid is y left = absurd (not-sure (same_card w.card c) (subst (λ (b : Bool). (same_card w.card c && not b) ≡ true) has is))

-- a place is entered
pub sessions-entered : (o : Origin) (moves : List Move) (log : RunLog) (notes : List Note) (p : PlaceNote) (d e : Devices) → SessionsGo o NoOtherComes d e → SessionsOnCards o moves log notes d → SessionsOnCards o moves log (notes ++ Enters p ∷ []) e
sessions-entered o moves log notes p d e goes v c valid y left =
    let i = goes c valid y left in
    let start : ℕ = session_told (card_image o.recording c) (card_image o.recording c) in
    goes-told moves log c start (notes ++ Enters p ∷ []) (own_sizes (card_image o.recording c)) (NoOtherComes c) i.0 y i.2
    (tell-entered moves log c start notes (session_told (card_image o.recording c) i.0) p (v c valid i.0 i.1)) (λ none. absurd none)

-- ---- IN A SECOND

-- where a call fails in it, it is no earlier than each acceptance and withdrawal so far
broken-now : (log : RunLog) (c : Card) (u : ℕ) (notes : List Note) → has_call_failed_in log u ≡ true → AreEarlier (suc u) notes → HasFailedSince log c notes u
broken-now log c u notes has early = (has, by notes early)
  where
    by : (ns : List Note) → AreEarlier (suc u) ns → AllByRecursion (IsNotBefore log c u) ns
    by [] earlier = tt
    by (Accepts a ∷ ns) earlier = ((λ is. let at = earlier.0 in omega (arith, at)), by ns earlier.1)
    by (Withdraws w ∷ ns) earlier = ((λ is. let at = earlier.0 in omega (arith, at)), by ns earlier.1)
    by (Enters p ∷ ns) earlier = (tt, by ns earlier.1)

pub fails-since : (log : RunLog) (u : ℕ) (ms ns : List Move) → ((m : Move) → Contains ms m → Contains ns m) → (notes : List Note) → AreEarlier (suc u) notes → (c : Card) (t : ℕ) → FailsIn log ms u c t → IsBrokenSince ns log c notes t
fails-since log u ms ns more notes early c t failing = (u, broken-now log c u notes failing.1 early, leave-more ms ns more c u t failing.0)

-- a card that was put in in it
pub fails-in : (log : RunLog) (moves : List Move) (u : ℕ) (card c : Card) (t : ℕ) → Contains moves (goes_in u card) → same_card card c ≡ true → (t ≡ 0) ⊎ (t ≡ u) → has_call_failed_in log u ≡ true → FailsIn log moves u c t
fails-in log moves u card c t at mine is failed = (inl (subst (λ (x : Card). Contains moves (goes_in u x)) (card-is card c mine) at, is), failed)

-- ---- WHICH SECOND it is by which an odometer is told: the card was put in in it

-- a call failed in it
pub broken-put : (moves : List Move) (log : RunLog) (c : Card) (notes : List Note) (t : ℕ) → 0 < t → IsBrokenSince moves log c notes t → IsPutIn moves c t
broken-put moves log c notes t some broken = ⊎_elim
    (λ in_. ⊎_elim
    (λ (none : t ≡ 0). absurd (omega (arith, some, none)))
    (λ (same : t ≡ broken.0). subst (λ (u : ℕ). IsPutIn moves c u) (sym same) in_.0)
    in_.1)
    (λ out. absurd (let none : t ≡ 0 = out.1 in omega (arith, some, none)))
    broken.2

-- it is accepted
pub opens-put : (moves : List Move) (log : RunLog) (a : Acceptance) (c : Card) (t : ℕ) → IsPutIn moves a.card a.second → 0 < t → OpensIn log a c t → IsPutIn moves c t
opens-put moves log a c t put some opens = ⊎_elim
    (λ (same : t ≡ a.second). subst (λ (x : Card). IsPutIn moves x t) (card-is a.card c opens.0) (subst (λ (u : ℕ). IsPutIn moves a.card u) (sym same) put))
    (λ failed. absurd (let none : t ≡ 0 = failed.0 in omega (arith, some, none)))
    opens.1

-- and none, where it is withdrawn
pub ends-put : (moves : List Move) (card c : Card) (t : ℕ) → 0 < t → Ends card c t → IsPutIn moves c t
ends-put moves card c t some ends = absurd (let none : t ≡ 0 = ends.1 in omega (arith, some, none))

-- ---- A CARD THAT WAS WITHDRAWN

pub ends-all : (o : Origin) (spans : List SpanFrom) (had : Bool) (card : Card) (d e : Devices) → CardsGo o spans (EndsIf had card) d e → CardsGo o spans (Ends card) d e
ends-all o spans had card d e cards = go-more o spans (EndsIf had card) (Ends card) d e (λ c t ends. ends.1) cards

-- where a call failed in it
pub ends-fail : (o : Origin) (spans : List SpanFrom) (had : Bool) (card : Card) (log : RunLog) (moves : List Move) (u : ℕ) (d e : Devices) → (had ≡ true → Contains moves (goes_out u card)) → (had ≡ true → has_call_failed_in log u ≡ true) → CardsGo o spans (EndsIf had card) d e → CardsGo o spans (FailsIn log moves u) d e
ends-fail o spans had card log moves u d e out fails cards = go-more o spans (EndsIf had card) (FailsIn log moves u) d e
    (λ c t ends. (inr (subst (λ (x : Card). Contains moves (goes_out u x)) (card-is card c ends.1.0) (out ends.0), ends.1.1), fails ends.0)) cards
