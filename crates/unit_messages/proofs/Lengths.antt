-- How many bytes each message has.
use Rattle.std.proofs.Common.{◌≡◌, ℕ, ◌+◌, ◌-◌, ◌*◌, ◌/◌, ◌<◌, ◌≤◌, min, Option, Some, IfSome, List, [], ◌∷◌, ◌++◌, length, take, drop, replicate, refl, sym, ◌∙◌, ap, subst, arith, length-append}
use Rattle.std.proofs.lemmas.List.{length-take, length-drop, take_all}
use Rattle.std.proofs.Math.Seq.{take-add}
use Rattle.link_model.specs.declared.request.Request.{Request}
use Rattle.byteorder.specs.Endian.{big_bytes}
use Rattle.byteorder.specs.Numbers.{length-bytes_high_first}
use Rattle.card_layout.specs.Fields.{joined}
use Rattle.gated_ring.specs.Ring.{next, pointer, ring_list}
use Rattle.gated_ring.proofs.Orders.{next_below}
use Rattle.message_model.specs.Records.{speed_ring}
use Rattle.unit_model.specs.declared.layout.Field.{Field}
use Rattle.unit_model.specs.declared.layout.TheConstants.{VIN, REGISTRATION, IDENTIFICATION, SENSOR, STATE_CERTIFICATE, UNIT_CERTIFICATE, IMAGE_SIZE, INSERTIONS, PLACES, EVENTS, OVERS, FAULTS, SPEEDS}
use Rattle.unit_model.specs.Image.{words_at}
use Rattle.message_model.specs.Messages.{counted, word_bytes}
use Rattle.message_model.specs.Sending.{field_of, entries_in, event_table, over_table, fault_table}
use Rattle.unit_messages.specs.declared.entries.Choice.TheVariants.{Each as AnyEntry}
use Rattle.unit_messages.specs.declared.entries.Entries.{Entries}
use Rattle.unit_messages.specs.declared.outline.Times.{Times}
use Rattle.unit_messages.specs.declared.outline.DayOutline.{DayOutline}
use Rattle.unit_messages.specs.declared.outline.EventOutline.{EventOutline}
use Rattle.unit_messages.specs.declared.outline.Plan.{Plan}
use Rattle.unit_messages.specs.declared.outline.Plan.TheVariants.{Overview, Day, Events, Speed, Technical}
use Rattle.unit_messages.specs.Windows.{Sight, passed}
use Rattle.unit_messages.specs.Chosen.{AreEntries, ring_of, chosen_in_ring, insertions_on, places_on, speed_blocks, entries_of, shape_of}
use Rattle.unit_messages.specs.Outlines.{Outlines, HasPassed, IsDayOf, AreEventsOf, AreBlocksOf, bytes_sent, asked, length_of}
use Rattle.unit_messages.specs.Sent.{IsPiece}
use Rattle.unit_messages.proofs.Windows.{words_long}
use Rattle.unit_messages.proofs.Rings.{ring_long, speeds_are, table_long}
use Rattle.unit_messages.proofs.Contents.{overview_parts, technical_parts, event_parts, speed_parts, day_parts, insertions_in, places_in, overview_sent, technical_sent, event_sent, speed_sent, day_sent_as}

field_long : (f : Field) (x : List ℕ) → f.place + f.size ≤ length x → length (field_of f x) ≡ f.size
field_long f x inside = omega (arith, inside, length-take f.size (drop f.place x), length-drop f.place x)

both_long : (a b : List ℕ) (m n : ℕ) → length a ≡ m → length b ≡ n → length (a ++ b) ≡ m + n
both_long a b m n first next = omega (arith, first, next, length-append a b)

counted_long : (k n : ℕ) (es : List (List ℕ)) → length (joined es) ≡ n → length (counted k es) ≡ k + n
counted_long k n es long = both_long (big_bytes k (length es)) (joined es) k n (length-bytes_high_first k (length es)) long

overview_long : (x : List ℕ) (t : Times) → IMAGE_SIZE ≤ length x → 623 ≡ length (overview_parts x t)
overview_long x t long =
    let f1 = field_long STATE_CERTIFICATE x (omega (arith, long)) in
    let f2 = field_long UNIT_CERTIFICATE x (omega (arith, long)) in
    let f3 = field_long VIN x (omega (arith, long)) in
    let f4 = field_long REGISTRATION x (omega (arith, long)) in
    by (field_of STATE_CERTIFICATE x) (field_of UNIT_CERTIFICATE x) (field_of VIN x) (field_of REGISTRATION x) (big_bytes 4 t.now) (big_bytes 4 t.begin) (big_bytes 4 t.end) (replicate 189 0) f1 f2 f3 f4
    (length-bytes_high_first 4 t.now) (length-bytes_high_first 4 t.begin) (length-bytes_high_first 4 t.end) refl
  where
    by : (sc uc v r a b c z : List ℕ) → length sc ≡ 194 → length uc ≡ 194 → length v ≡ 17 → length r ≡ 15 → length a ≡ 4 → length b ≡ 4 → length c ≡ 4 → length z ≡ 189
        → 623 ≡ length (0x76 ∷ 1 ∷ (sc ++ (uc ++ (v ++ (r ++ (a ++ (b ++ (c ++ z))))))))
    by sc uc v r a b c z e1 e2 e3 e4 e5 e6 e7 e8 =
        let l6 = both_long b (c ++ z) 4 193 e6 (both_long c z 4 189 e7 e8) in
        let l4 = both_long r (a ++ (b ++ (c ++ z))) 15 201 e4 (both_long a (b ++ (c ++ z)) 4 197 e5 l6) in
        let l2 = both_long uc (v ++ (r ++ (a ++ (b ++ (c ++ z))))) 194 233 e2 (both_long v (r ++ (a ++ (b ++ (c ++ z)))) 17 216 e3 l4) in
        omega (arith, both_long sc (uc ++ (v ++ (r ++ (a ++ (b ++ (c ++ z)))))) 194 427 e1 l2)

technical_long : (x : List ℕ) → IMAGE_SIZE ≤ length x → 267 ≡ length (technical_parts x)
technical_long x long = by (field_of IDENTIFICATION x) (field_of SENSOR x) (replicate 129 0) (field_long IDENTIFICATION x (omega (arith, long))) (field_long SENSOR x (omega (arith, long))) refl
  where
    by : (a b z : List ℕ) → length a ≡ 116 → length b ≡ 20 → length z ≡ 129 → 267 ≡ length (0x76 ∷ 5 ∷ (a ++ (b ++ z)))
    by a b z e1 e2 e3 = omega (arith, both_long a (b ++ z) 116 149 e1 (both_long b z 20 129 e2 e3))

-- entries of a table
table_counted : (e : Entries) (x : List ℕ) (n : ℕ) → AreEntries e → IMAGE_SIZE ≤ length x → e.choice ≡ AnyEntry → n ≡ length (entries_in (shape_of e) x)
    → length (counted 1 (entries_in (shape_of e) x)) ≡ 1 + n * e.width
table_counted e x n are long each many = counted_long 1 (n * e.width) (entries_in (shape_of e) x) (table_long e x are long each ∙ ap (λ (m : ℕ). m * e.width) (sym many))

faults_are : AreEntries (entries_of FAULTS.place 82 24)
faults_are = record { inside = omega arith; gate = omega arith; narrow = omega arith; few = omega arith; room = omega arith }

events_are : AreEntries (entries_of EVENTS.place 83 60)
events_are = record { inside = omega arith; gate = omega arith; narrow = omega arith; few = omega arith; room = omega arith }

overs_are : AreEntries (entries_of OVERS.place 31 10)
overs_are = record { inside = omega arith; gate = omega arith; narrow = omega arith; few = omega arith; room = omega arith }

events_long : (x : List ℕ) (e : EventOutline) → IMAGE_SIZE ≤ length x → AreEventsOf x e → 143 + 82 * e.faults + 83 * e.events + 31 * e.overs ≡ length (event_parts x e)
events_long x e long are =
    let f = table_counted (entries_of FAULTS.place 82 24) x e.faults faults_are long refl are.faults in
    let v = table_counted (entries_of EVENTS.place 83 60) x e.events events_are long refl are.events in
    let o = table_counted (entries_of OVERS.place 31 10) x e.overs overs_are long refl are.overs in
    by (counted 1 (entries_in fault_table x)) (counted 1 (entries_in event_table x)) (replicate 4 0) (big_bytes 4 e.first_over) (big_bytes 1 e.over_count) (counted 1 (entries_in over_table x)) (replicate 129 0) f v refl
    (length-bytes_high_first 4 e.first_over) (length-bytes_high_first 1 e.over_count) o refl
  where
    by : (f v y a b o z : List ℕ) → length f ≡ 1 + e.faults * 82 → length v ≡ 1 + e.events * 83 → length y ≡ 4 → length a ≡ 4 → length b ≡ 1 → length o ≡ 1 + e.overs * 31 → length z ≡ 129
        → 143 + 82 * e.faults + 83 * e.events + 31 * e.overs ≡ length (0x76 ∷ 3 ∷ (f ++ (v ++ (y ++ (a ++ (b ++ (o ++ z)))))))
    by f v y a b o z e1 e2 e3 e4 e5 e6 e7 =
        let l6 = both_long o z (1 + e.overs * 31) 129 e6 e7 in
        let l5 = both_long b (o ++ z) 1 (1 + e.overs * 31 + 129) e5 l6 in
        let l4 = both_long a (b ++ (o ++ z)) 4 (1 + (1 + e.overs * 31 + 129)) e4 l5 in
        let l3 = both_long y (a ++ (b ++ (o ++ z))) 4 (4 + (1 + (1 + e.overs * 31 + 129))) e3 l4 in
        let l2 = both_long v (y ++ (a ++ (b ++ (o ++ z)))) (1 + e.events * 83) (4 + (4 + (1 + (1 + e.overs * 31 + 129)))) e2 l3 in
        omega (arith, e1, length-append f (v ++ (y ++ (a ++ (b ++ (o ++ z))))), l2)

-- entries of a ring
ring_sized : (k place n : ℕ) (e : Entries) (x : List ℕ) → AreEntries e → IMAGE_SIZE ≤ length x → e.base ≡ place + 4 → pointer (ring_of place e) x < e.count → n ≡ length (chosen_in_ring place e x)
    → length (counted k (chosen_in_ring place e x)) ≡ k + n * e.width
ring_sized k place n e x are long at low many =
    let r = ring_of place e in
    let start : next r (pointer r x) < e.count = next_below r (pointer r x) low in
    counted_long k (n * e.width) (chosen_in_ring place e x) (ring_long place e x are long at (omega (arith, start)) ∙ ap (λ (m : ℕ). m * e.width) (sym many))

day_long : (x : List ℕ) (d : DayOutline) → IMAGE_SIZE ≤ length x → IsDayOf x d → 144 + 129 * d.insertions + 2 * d.words + 28 * d.places ≡ length (day_parts x d)
day_long x d long is =
    let i = ring_sized 2 INSERTIONS.place d.insertions (insertions_on d.date) x (record { inside = omega arith; gate = omega arith; narrow = omega arith; few = omega arith; room = omega arith }) long refl is.insertion_pointer is.insertions in
    let p = ring_sized 1 PLACES.place d.places (places_on d.date) x (record { inside = omega arith; gate = omega arith; narrow = omega arith; few = omega arith; room = omega arith }) long refl is.place_pointer is.places in
    let w = counted_long 2 (2 * d.words) (word_bytes (words_at x d.words_place d.words)) (words_long x d.words_place d.words) in
    by (big_bytes 4 d.date) (big_bytes 3 d.odometer) (counted 2 (insertions_in x d.date)) (counted 2 (word_bytes (words_at x d.words_place d.words))) (counted 1 (places_in x d.date)) (replicate 130 0)
    (length-bytes_high_first 4 d.date) (length-bytes_high_first 3 d.odometer) i w p refl
  where
    by : (a o i w p z : List ℕ) → length a ≡ 4 → length o ≡ 3 → length i ≡ 2 + d.insertions * 129 → length w ≡ 2 + 2 * d.words → length p ≡ 1 + d.places * 28 → length z ≡ 130
        → 144 + 129 * d.insertions + 2 * d.words + 28 * d.places ≡ length (0x76 ∷ 2 ∷ (a ++ (o ++ (i ++ (w ++ (p ++ z))))))
    by a o i w p z e1 e2 e3 e4 e5 e6 =
        let l5 = both_long p z (1 + d.places * 28) 130 e5 e6 in
        let l4 = both_long w (p ++ z) (2 + 2 * d.words) (1 + d.places * 28 + 130) e4 l5 in
        let l3 = both_long i (w ++ (p ++ z)) (2 + d.insertions * 129) (2 + 2 * d.words + (1 + d.places * 28 + 130)) e3 l4 in
        let l2 = both_long o (i ++ (w ++ (p ++ z))) 3 (2 + d.insertions * 129 + (2 + 2 * d.words + (1 + d.places * 28 + 130))) e2 l3 in
        omega (arith, e1, length-append a (o ++ (i ++ (w ++ (p ++ z)))), l2)

blocks_are : AreEntries speed_blocks
blocks_are = record { inside = omega arith; gate = omega arith; narrow = omega arith; few = omega arith; room = omega arith }

speed_long : (x : List ℕ) (n : ℕ) → IMAGE_SIZE ≤ length x → AreBlocksOf x n → 132 + 64 * n ≡ length (speed_parts x)
speed_long x n long are =
    let all = speeds_are x in
    let b = ring_sized 2 SPEEDS.place n speed_blocks x blocks_are long refl are.pointer (are.blocks ∙ ap length (sym all)) in
    by (counted 2 (ring_list speed_ring x)) (replicate 128 0) (ap (λ (l : List (List ℕ)). length (counted 2 l)) (sym all) ∙ b) refl
  where
    by : (b z : List ℕ) → length b ≡ 2 + n * 64 → length z ≡ 128 → 132 + 64 * n ≡ length (0x76 ∷ 4 ∷ (b ++ z))
    by b z e1 e2 = omega (arith, both_long b z (2 + n * 64) 128 e1 e2)

-- a message has as many bytes as its outline says
pub length_told : (o : Plan) (x : List ℕ) → IMAGE_SIZE ≤ length x → Outlines o x → IfSome (bytes_sent x (asked o)) (λ bytes. length_of o ≡ length bytes)
length_told (Overview t) x long is = subst (λ (m : Option (List ℕ)). IfSome m (λ bytes. 623 ≡ length bytes)) (sym (overview_sent x t is)) (overview_long x t long)
length_told (Day d) x long is = subst (λ (m : Option (List ℕ)). IfSome m (λ bytes. 144 + 129 * d.insertions + 2 * d.words + 28 * d.places ≡ length bytes)) (sym (day_sent_as x d is)) (day_long x d long is)
length_told (Events e) x long is = subst (λ (m : Option (List ℕ)). IfSome m (λ bytes. 143 + 82 * e.faults + 83 * e.events + 31 * e.overs ≡ length bytes)) (sym (event_sent x e is)) (events_long x e long is)
length_told (Speed n) x long is = subst (λ (m : Option (List ℕ)). IfSome m (λ bytes. 132 + 64 * n ≡ length bytes)) (sym (speed_sent x)) (speed_long x n long is)
length_told Technical x long is = subst (λ (m : Option (List ℕ)). IfSome m (λ bytes. 267 ≡ length bytes)) (sym (technical_sent x)) (technical_long x long)

pub length_by : (o : Plan) (x : List ℕ) (n : ℕ) → n ≡ length_of o → IMAGE_SIZE ≤ length x → Outlines o x → IfSome (bytes_sent x (asked o)) (λ bytes. n ≡ length bytes)
length_by o x n is long known = subst (λ (m : ℕ). IfSome (bytes_sent x (asked o)) (λ bytes. m ≡ length bytes)) (sym is) (length_told o x long known)

-- a piece of it, from a window by which its bytes have passed
pub piece_is : (o : Plan) (x : List ℕ) (from due : ℕ) (start w : Sight) (items : List ℕ) → IMAGE_SIZE ≤ length x → Outlines o x → start ≡ record { skip = from; held = [] } → HasPassed o x start w
    → due ≡ min 252 (length_of o - from) → (length w.held ≡ due → items ≡ w.held) → IsPiece x (asked o) from (Some (length_of o)) items
piece_is o x from due start w items long known begun has is same =
    let bytes = has.0 in
    let len : length_of o ≡ length bytes = subst (λ (m : Option (List ℕ)). IfSome m (λ b. length_of o ≡ length b)) has.1 (length_told o x long known) in
    let held : w.held ≡ take 252 (drop from bytes) = ap (λ (s : Sight). s.held) has.2 ∙ ap (λ (s : Sight). (passed s bytes).held) begun in
    let many : length w.held ≡ due = omega (arith, ap length held, length-take 252 (drop from bytes), length-drop from bytes, len, is) in
    (bytes, has.1, len, same many ∙ held)

-- the bytes of a message piece after piece
pub piece_more : (x : List ℕ) (q : Request) (old items new : List ℕ) (turn len : ℕ) (b : List ℕ) → bytes_sent x q ≡ Some b → old ≡ take (turn * 252) b → IsPiece x q (turn * 252) (Some len) items → new ≡ old ++ items
    → new ≡ take ((turn + 1) * 252) b
piece_more x q old items new turn len b sent before it after =
    let same : it.0 ≡ b = let both : Some it.0 ≡ Some b = sym it.1 ∙ sent in cc in
    let items_are : items ≡ take 252 (drop (turn * 252) b) = it.3 ∙ ap (λ (l : List ℕ). take 252 (drop (turn * 252) l)) same in
    after ∙ (λ t. before t ++ items_are t) ∙ sym (take-add (turn * 252) 252 b) ∙ ap (λ (n : ℕ). take n b) (let e : turn * 252 + 252 ≡ (turn + 1) * 252 = omega arith in e)

sent_some : (o : Plan) (x : List ℕ) → IMAGE_SIZE ≤ length x → Outlines o x → (b : List ℕ) × (bytes_sent x (asked o) ≡ Some b) × (length_of o ≡ length b)
sent_some (Overview t) x long is = (overview_parts x t, overview_sent x t is, overview_long x t long)
sent_some (Day d) x long is = (day_parts x d, day_sent_as x d is, day_long x d long is)
sent_some (Events e) x long is = (event_parts x e, event_sent x e is, events_long x e long is)
sent_some (Speed n) x long is = (speed_parts x, speed_sent x, speed_long x n long is)
sent_some Technical x long is = (technical_parts x, technical_sent x, technical_long x long)

pub whole_is : (o : Plan) (x items : List ℕ) (turns : ℕ) → IMAGE_SIZE ≤ length x → Outlines o x → turns ≡ length_of o / 252 + 1 → ((b : List ℕ) → bytes_sent x (asked o) ≡ Some b → items ≡ take (turns * 252) b)
    → Some items ≡ bytes_sent x (asked o)
whole_is o x items turns long known is told =
    let sent = sent_some o x long known in
    let all : length sent.0 ≤ turns * 252 = omega (arith, sent.2, is) in
    ap Some (told sent.0 sent.1 ∙ take_all (turns * 252) sent.0 all) ∙ sym sent.1
