-- The messages of an image answer the requests of a download.
use Rattle.std.proofs.Common.{◌≡◌, ℕ, ◌<◌, ◌≤◌, Bool, true, false, cond, Option, Some, option_map, List, [], ◌∷◌, ◌++◌, map, refl, sym, ◌∙◌, ap, append_assoc, arith}
use Rattle.std.specs.Prelude.{nat_eq, flat_map, option_to_list}
use Rattle.std.proofs.lemmas.Bool.Decides.{nat_tests}
use Rattle.unit_model.specs.Days.{StoredDay}
use Rattle.link_model.specs.declared.request.Request.{Request}
use Rattle.link_model.specs.declared.request.Request.TheVariants.{Day as AskDay, Events as AskEvents, Speed as AskSpeed, Technical as AskTechnical}
use Rattle.message_model.specs.Messages.{Message, AnOverview, ADay, AnEventList, ASpeedList, ATechnical}
use Rattle.message_model.specs.Sending.{sent_days, day_at, Follow, overview_of, day_message_of, event_message_of, speed_message_of, technical_message_of, message_of, messages_of, requests_of}

-- no day begins later than a second
abbrev AllUpTo : ℕ → List StoredDay → Type 0
AllUpTo date [] = Unit {0}
AllUpTo date (d ∷ ds) = (d.date ≤ date) × AllUpTo date ds

with_next : (date : ℕ) (ds : List StoredDay) (d : StoredDay) → AllUpTo date ds → date < d.date → AllUpTo d.date (ds ++ d ∷ [])
with_next date [] d all lt = (omega arith, tt)
with_next date (e ∷ ds) d all lt = (omega (arith, lt, all.0), with_next date ds d all.1 lt)

-- a day behind earlier ones is the first that begins at its second
found : (date : ℕ) (front : List StoredDay) (d : StoredDay) (rest : List StoredDay) → AllUpTo date front → date < d.date → day_at d.date (front ++ d ∷ rest) ≡ Some d
found date [] d rest all lt = ap (λ (b : Bool). cond b (Some d) (day_at d.date rest)) (same d.date)
  where
    same : (n : ℕ) → nat_eq n n ≡ true
    same n = grind (arith, nat_tests)
found date (e ∷ front) d rest all lt = ap (λ (b : Bool). cond b (Some e) (day_at d.date (front ++ d ∷ rest))) (apart e.date d.date (omega (arith, all.0, lt))) ∙ found date front d rest all.1 lt
  where
    apart : (m n : ℕ) → m < n → nat_eq m n ≡ false
    apart m n lt = grind (arith, nat_tests)

module _ (x : List ℕ) where
  abbrev answer : Request → List Message
  answer r = option_to_list (message_of x r)

  abbrev told : StoredDay → Message
  told d = ADay (day_message_of x d)

  ends : flat_map answer (AskEvents ∷ AskSpeed ∷ AskTechnical ∷ []) ≡ AnEventList (event_message_of x) ∷ ASpeedList (speed_message_of x) ∷ ATechnical (technical_message_of x) ∷ []
  unfolding message_of
  ends = refl

  day_answered : (date : ℕ) (front : List StoredDay) (d : StoredDay) (rest : List StoredDay) → sent_days x ≡ front ++ d ∷ rest → AllUpTo date front → date < d.date → answer (AskDay d.date) ≡ told d ∷ []
  unfolding message_of
  day_answered date front d rest is all lt =
      ap (λ (o : Option StoredDay). option_to_list (option_map told o)) (ap (λ (ds : List StoredDay). day_at d.date ds) is ∙ found date front d rest all lt)

  days_answered : (date : ℕ) (front rest : List StoredDay) → sent_days x ≡ front ++ rest → AllUpTo date front → Follow date rest → flat_map answer (map (λ d. AskDay d.date) rest ++ AskEvents ∷ AskSpeed ∷ AskTechnical ∷ [])
      ≡ map told rest ++ AnEventList (event_message_of x) ∷ ASpeedList (speed_message_of x) ∷ ATechnical (technical_message_of x) ∷ []
  days_answered date front [] is all follow = ends
  days_answered date front (d ∷ rest) is all follow =
      ap (λ (l : List Message). l ++ flat_map answer (map (λ d. AskDay d.date) rest ++ AskEvents ∷ AskSpeed ∷ AskTechnical ∷ [])) (day_answered date front d rest is all follow.0)
      ∙ ap (λ (l : List Message). told d ∷ l) (days_answered d.date (front ++ d ∷ []) rest (is ∙ sym (append_assoc front (d ∷ []) rest)) (with_next date front d all follow.0) follow.1)

pub file_answers : (x : List ℕ) → Follow 0 (sent_days x) → messages_of x ≡ flat_map (λ r. option_to_list (message_of x r)) (requests_of x)
unfolding messages_of message_of
file_answers x follow = ap (λ (l : List Message). AnOverview (overview_of x) ∷ l) (sym (days_answered x 0 [] (sent_days x) refl tt follow))
