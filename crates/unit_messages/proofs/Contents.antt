-- The messages, part after part.
use Rattle.std.proofs.Common.{◌≡◌, ℕ, Option, Some, List, [], ◌∷◌, ◌++◌, filter, replicate, append_assoc, refl, sym, ◌∙◌, ap}
use Rattle.std.specs.Prelude.{option_map}
use Rattle.byteorder.specs.Endian.{big_bytes}
use Rattle.gated_ring.specs.Ring.{ring_list}
use Rattle.unit_model.specs.declared.layout.TheConstants.{VIN, REGISTRATION, IDENTIFICATION, SENSOR, STATE_CERTIFICATE, UNIT_CERTIFICATE}
use Rattle.unit_model.specs.Days.{StoredDay}
use Rattle.unit_model.specs.Image.{words_at}
use Rattle.link_model.specs.declared.request.Request.TheVariants.{Overview as AskOverview, Day as AskDay, Events as AskEvents, Speed as AskSpeed, Technical as AskTechnical}
use Rattle.message_model.specs.Records.{insertion_ring, unit_place_ring, speed_ring}
use Rattle.message_model.specs.Messages.{ADay, counted, word_bytes, message_bytes}
use Rattle.message_model.specs.Sending.{field_of, message_of, overview_of, day_message_of, event_message_of, speed_message_of, technical_message_of, entries_in, event_table, over_table, fault_table, touches_day, place_in_day}
use Rattle.unit_messages.specs.Windows.{Sight, passed}
use Rattle.unit_messages.specs.declared.outline.Times.{Times}
use Rattle.unit_messages.specs.declared.outline.DayOutline.{DayOutline}
use Rattle.unit_messages.specs.declared.outline.EventOutline.{EventOutline}
use Rattle.unit_messages.specs.declared.outline.Plan.TheVariants.{Overview, Day, Events, Speed, Technical}
use Rattle.unit_messages.specs.Outlines.{AreTimes, IsDayOf, AreEventsOf, HasPassed, bytes_sent}
use Rattle.unit_messages.proofs.Joints.{then_passed}

-- the bytes of each message, by its outline
abbrev pub overview_parts : List ℕ → Times → List ℕ
overview_parts x t =
    0x76 ∷ 1
    ∷ (field_of STATE_CERTIFICATE x ++ (field_of UNIT_CERTIFICATE x
    ++ (field_of VIN x ++ (field_of REGISTRATION x ++ (big_bytes 4 t.now ++ (big_bytes 4 t.begin ++ (big_bytes 4 t.end ++ replicate 189 0)))))))

abbrev pub technical_parts : List ℕ → List ℕ
technical_parts x = 0x76 ∷ 5 ∷ (field_of IDENTIFICATION x ++ (field_of SENSOR x ++ replicate 129 0))

abbrev pub speed_parts : List ℕ → List ℕ
speed_parts x = 0x76 ∷ 4 ∷ (counted 2 (ring_list speed_ring x) ++ replicate 128 0)

abbrev pub event_parts : List ℕ → EventOutline → List ℕ
event_parts x e =
    0x76 ∷ 3
    ∷ (counted 1 (entries_in fault_table x) ++ (counted 1 (entries_in event_table x)
    ++ (replicate 4 0 ++ (big_bytes 4 e.first_over ++ (big_bytes 1 e.over_count ++ (counted 1 (entries_in over_table x) ++ replicate 129 0))))))

abbrev pub insertions_in : List ℕ → ℕ → List (List ℕ)
insertions_in x date = filter (touches_day date) (ring_list insertion_ring x)

abbrev pub places_in : List ℕ → ℕ → List (List ℕ)
places_in x date = filter (place_in_day date) (ring_list unit_place_ring x)

abbrev pub day_parts : List ℕ → DayOutline → List ℕ
day_parts x d =
    0x76 ∷ 2
    ∷ (big_bytes 4 d.date ++ (big_bytes 3 d.odometer ++ (counted 2 (insertions_in x d.date)
    ++ (counted 2 (word_bytes (words_at x d.words_place d.words)) ++ (counted 1 (places_in x d.date) ++ replicate 130 0)))))

-- they are those of the message that is sent
pub overview_sent : (x : List ℕ) (t : Times) → AreTimes x t → bytes_sent x AskOverview ≡ Some (overview_parts x t)
unfolding message_of overview_of
overview_sent x t are =
    sym (λ i. Some (0x76 ∷ 1
    ∷ (field_of STATE_CERTIFICATE x ++ (field_of UNIT_CERTIFICATE x
    ++ (field_of VIN x ++ (field_of REGISTRATION x ++ (big_bytes 4 (are.now i) ++ (big_bytes 4 (are.begin i) ++ (big_bytes 4 (are.end i) ++ replicate 189 0)))))))))

pub technical_sent : (x : List ℕ) → bytes_sent x AskTechnical ≡ Some (technical_parts x)
unfolding message_of technical_message_of
technical_sent x = refl

pub speed_sent : (x : List ℕ) → bytes_sent x AskSpeed ≡ Some (speed_parts x)
unfolding message_of speed_message_of
speed_sent x = refl

pub event_sent : (x : List ℕ) (e : EventOutline) → AreEventsOf x e → bytes_sent x AskEvents ≡ Some (event_parts x e)
unfolding message_of event_message_of
event_sent x e are =
    sym (λ i. Some (0x76 ∷ 3
    ∷ (counted 1 (entries_in fault_table x) ++ (counted 1 (entries_in event_table x)
    ++ (replicate 4 0 ++ (big_bytes 4 (are.first_over i) ++ (big_bytes 1 (are.over_count i) ++ (counted 1 (entries_in over_table x) ++ replicate 129 0))))))))

pub day_sent_as : (x : List ℕ) (d : DayOutline) → IsDayOf x d → bytes_sent x (AskDay d.date) ≡ Some (day_parts x d)
unfolding message_of day_message_of
day_sent_as x d is =
    ap (λ (found : Option StoredDay). option_map message_bytes (option_map (λ s. ADay (day_message_of x s)) found)) is.found
    ∙ (λ i. Some (0x76 ∷ 2
    ∷ (big_bytes 4 (is.date i) ++ (big_bytes 3 (is.odometer i) ++ (counted 2 (insertions_in x (is.date i))
    ++ (counted 2 (word_bytes (is.words i)) ++ (counted 1 (places_in x (is.date i)) ++ replicate 130 0)))))))

-- and pass by one after the other
pub overview_passed : (x : List ℕ) (t : Times) (w u1 u2 u3 u4 u5 u6 u7 : Sight) → AreTimes x t → u1 ≡ passed w (0x76 ∷ 1 ∷ []) → u2 ≡ passed u1 (field_of STATE_CERTIFICATE x ++ field_of UNIT_CERTIFICATE x)
    → u3 ≡ passed u2 (field_of VIN x ++ field_of REGISTRATION x) → u4 ≡ passed u3 (big_bytes 4 t.now) → u5 ≡ passed u4 (big_bytes 4 t.begin) → u6 ≡ passed u5 (big_bytes 4 t.end) → u7 ≡ passed u6 (replicate 189 0)
    → HasPassed (Overview t) x w u7
overview_passed x t w u1 u2 u3 u4 u5 u6 u7 are e1 e2 e3 e4 e5 e6 e7 =
    (overview_parts x t, overview_sent x t are, by (field_of STATE_CERTIFICATE x) (field_of UNIT_CERTIFICATE x) (field_of VIN x) (field_of REGISTRATION x) (big_bytes 4 t.now) (big_bytes 4 t.begin) (big_bytes 4 t.end) (replicate 189 0) e2 e3 e4 e5 e6 e7)
  where
    by : (sc uc v r a b c z : List ℕ) → u2 ≡ passed u1 (sc ++ uc) → u3 ≡ passed u2 (v ++ r) → u4 ≡ passed u3 a → u5 ≡ passed u4 b → u6 ≡ passed u5 c → u7 ≡ passed u6 z
        → u7 ≡ passed w (0x76 ∷ 1 ∷ (sc ++ (uc ++ (v ++ (r ++ (a ++ (b ++ (c ++ z))))))))
    by sc uc v r a b c z f2 f3 f4 f5 f6 f7 =
        let t = a ++ (b ++ (c ++ z)) in
        let p4 : u7 ≡ passed u3 t = then_passed u7 u4 u3 a (b ++ (c ++ z)) f4 (then_passed u7 u5 u4 b (c ++ z) f5 (then_passed u7 u6 u5 c z f6 f7)) in
        let p3 : u7 ≡ passed u2 ((v ++ r) ++ t) = then_passed u7 u3 u2 (v ++ r) t f3 p4 in
        let p2 : u7 ≡ passed u1 ((sc ++ uc) ++ ((v ++ r) ++ t)) = then_passed u7 u2 u1 (sc ++ uc) ((v ++ r) ++ t) f2 p3 in
        let p1 : u7 ≡ passed w (0x76 ∷ 1 ∷ ((sc ++ uc) ++ ((v ++ r) ++ t))) = then_passed u7 u1 w (0x76 ∷ 1 ∷ []) ((sc ++ uc) ++ ((v ++ r) ++ t)) e1 p2 in
        p1 ∙ ap (λ (l : List ℕ). passed w (0x76 ∷ 1 ∷ l)) (append_assoc sc uc ((v ++ r) ++ t) ∙ ap (λ (l : List ℕ). sc ++ (uc ++ l)) (append_assoc v r t))

pub technical_passed : (x : List ℕ) (w u1 u2 u3 : Sight) → u1 ≡ passed w (0x76 ∷ 5 ∷ []) → u2 ≡ passed u1 (field_of IDENTIFICATION x ++ field_of SENSOR x) → u3 ≡ passed u2 (replicate 129 0) → HasPassed Technical x w u3
technical_passed x w u1 u2 u3 e1 e2 e3 = (technical_parts x, technical_sent x, by (field_of IDENTIFICATION x) (field_of SENSOR x) (replicate 129 0) e2 e3)
  where
    by : (a b z : List ℕ) → u2 ≡ passed u1 (a ++ b) → u3 ≡ passed u2 z → u3 ≡ passed w (0x76 ∷ 5 ∷ (a ++ (b ++ z)))
    by a b z f2 f3 =
        let p2 : u3 ≡ passed u1 ((a ++ b) ++ z) = then_passed u3 u2 u1 (a ++ b) z f2 f3 in
        let p1 : u3 ≡ passed w (0x76 ∷ 5 ∷ ((a ++ b) ++ z)) = then_passed u3 u1 w (0x76 ∷ 5 ∷ []) ((a ++ b) ++ z) e1 p2 in
        p1 ∙ ap (λ (l : List ℕ). passed w (0x76 ∷ 5 ∷ l)) (append_assoc a b z)

pub speed_passed : (x : List ℕ) (n : ℕ) (w u1 u2 u3 : Sight) → u1 ≡ passed w (0x76 ∷ 4 ∷ []) → u2 ≡ passed u1 (counted 2 (ring_list speed_ring x)) → u3 ≡ passed u2 (replicate 128 0) → HasPassed (Speed n) x w u3
speed_passed x n w u1 u2 u3 e1 e2 e3 =
    (speed_parts x, speed_sent x, then_passed u3 u1 w (0x76 ∷ 4 ∷ []) (counted 2 (ring_list speed_ring x) ++ replicate 128 0) e1 (then_passed u3 u2 u1 (counted 2 (ring_list speed_ring x)) (replicate 128 0) e2 e3))

pub events_passed : (x : List ℕ) (e : EventOutline) (w u1 u2 u3 u4 u5 u6 u7 u8 : Sight) → AreEventsOf x e → u1 ≡ passed w (0x76 ∷ 3 ∷ []) → u2 ≡ passed u1 (counted 1 (entries_in fault_table x)) → u3 ≡ passed u2 (counted 1 (entries_in event_table x))
    → u4 ≡ passed u3 (replicate 4 0) → u5 ≡ passed u4 (big_bytes 4 e.first_over) → u6 ≡ passed u5 (big_bytes 1 e.over_count) → u7 ≡ passed u6 (counted 1 (entries_in over_table x)) → u8 ≡ passed u7 (replicate 129 0)
    → HasPassed (Events e) x w u8
events_passed x e w u1 u2 u3 u4 u5 u6 u7 u8 are e1 e2 e3 e4 e5 e6 e7 e8 =
    (event_parts x e, event_sent x e are, by (counted 1 (entries_in fault_table x)) (counted 1 (entries_in event_table x)) (replicate 4 0) (big_bytes 4 e.first_over) (big_bytes 1 e.over_count) (counted 1 (entries_in over_table x)) (replicate 129 0) e2 e3 e4 e5 e6 e7 e8)
  where
    by : (f v y a b o z : List ℕ) → u2 ≡ passed u1 f → u3 ≡ passed u2 v → u4 ≡ passed u3 y → u5 ≡ passed u4 a → u6 ≡ passed u5 b → u7 ≡ passed u6 o → u8 ≡ passed u7 z
        → u8 ≡ passed w (0x76 ∷ 3 ∷ (f ++ (v ++ (y ++ (a ++ (b ++ (o ++ z)))))))
    by f v y a b o z f2 f3 f4 f5 f6 f7 f8 =
        let p4 : u8 ≡ passed u3 (y ++ (a ++ (b ++ (o ++ z)))) =
        then_passed u8 u4 u3 y (a ++ (b ++ (o ++ z))) f4 (then_passed u8 u5 u4 a (b ++ (o ++ z)) f5 (then_passed u8 u6 u5 b (o ++ z) f6 (then_passed u8 u7 u6 o z f7 f8))) in
        then_passed u8 u1 w (0x76 ∷ 3 ∷ []) (f ++ (v ++ (y ++ (a ++ (b ++ (o ++ z)))))) e1
        (then_passed u8 u2 u1 f (v ++ (y ++ (a ++ (b ++ (o ++ z))))) f2 (then_passed u8 u3 u2 v (y ++ (a ++ (b ++ (o ++ z)))) f3 p4))

pub day_passed : (x : List ℕ) (d : DayOutline) (w u1 u2 u3 u4 u5 u6 u7 : Sight) → IsDayOf x d → u1 ≡ passed w (0x76 ∷ 2 ∷ []) → u2 ≡ passed u1 (big_bytes 4 d.date) → u3 ≡ passed u2 (big_bytes 3 d.odometer)
    → u4 ≡ passed u3 (counted 2 (insertions_in x d.date)) → u5 ≡ passed u4 (counted 2 (word_bytes (words_at x d.words_place d.words))) → u6 ≡ passed u5 (counted 1 (places_in x d.date)) → u7 ≡ passed u6 (replicate 130 0)
    → HasPassed (Day d) x w u7
day_passed x d w u1 u2 u3 u4 u5 u6 u7 is e1 e2 e3 e4 e5 e6 e7 =
    (day_parts x d, day_sent_as x d is, by (big_bytes 4 d.date) (big_bytes 3 d.odometer) (counted 2 (insertions_in x d.date)) (counted 2 (word_bytes (words_at x d.words_place d.words))) (counted 1 (places_in x d.date)) (replicate 130 0) e2 e3 e4 e5 e6 e7)
  where
    by : (a o i v p z : List ℕ) → u2 ≡ passed u1 a → u3 ≡ passed u2 o → u4 ≡ passed u3 i → u5 ≡ passed u4 v → u6 ≡ passed u5 p → u7 ≡ passed u6 z
        → u7 ≡ passed w (0x76 ∷ 2 ∷ (a ++ (o ++ (i ++ (v ++ (p ++ z))))))
    by a o i v p z f2 f3 f4 f5 f6 f7 =
        let p3 : u7 ≡ passed u2 (o ++ (i ++ (v ++ (p ++ z)))) =
        then_passed u7 u3 u2 o (i ++ (v ++ (p ++ z))) f3 (then_passed u7 u4 u3 i (v ++ (p ++ z)) f4 (then_passed u7 u5 u4 v (p ++ z) f5 (then_passed u7 u6 u5 p z f6 f7))) in
        then_passed u7 u1 w (0x76 ∷ 2 ∷ []) (a ++ (o ++ (i ++ (v ++ (p ++ z))))) e1 (then_passed u7 u2 u1 a (o ++ (i ++ (v ++ (p ++ z)))) f2 p3)
