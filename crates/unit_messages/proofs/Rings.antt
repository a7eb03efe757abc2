-- The entries of a ring and of a table as those that pass by.
use Rattle.std.proofs.Common.{◌≡◌, ℕ, ◌+◌, ◌-◌, ◌*◌, ◌≤◌, ◌<◌, not, List, [], ◌∷◌, ◌++◌, length, map, filter, refl, sym, ◌∙◌, ap, subst, arith}
use Rattle.std.specs.Prelude.{◌==◌}
use Rattle.std.specs.List.{range_with_len}
use Rattle.card_layout.specs.Images.{bytes_at, number_at}
use Rattle.card_layout.specs.Fields.{joined}
use Rattle.gated_ring.specs.Ring.{Shape, order, next, pointer, ring_list, indices as ring_indices}
use Rattle.gated_ring.proofs.Orders.{Each, range_each, each_append, next_below}
use Rattle.std.proofs.lemmas.List.{append-nil, length-map}
use Rattle.std.proofs.lemmas.List.FromFn.{length-map-range_with_len}
use Rattle.byteorder.specs.Endian.{big_bytes}
use Rattle.unit_model.specs.Image.{words_at}
use Rattle.message_model.specs.Messages.{counted, word_bytes}
use Rattle.unit_model.specs.declared.layout.TheConstants.{IMAGE_SIZE, SPEEDS}
use Rattle.message_model.specs.Records.{speed_ring}
use Rattle.message_model.specs.Sending.{entries_in}
use Rattle.unit_messages.specs.declared.entries.Choice.{Choice}
use Rattle.unit_messages.specs.declared.entries.Choice.TheVariants.{Each as AnyEntry}
use Rattle.unit_messages.specs.declared.entries.Entries.{Entries}
use Rattle.unit_messages.specs.Chosen.{chosen, chosen_at, shape_of, ring_of, chosen_in_ring, speed_blocks, AreEntries}
use Rattle.unit_messages.specs.Windows.{Sight, passed}
use Rattle.unit_messages.proofs.Choosing.{chosen_round}
use Rattle.unit_messages.proofs.Counting.{all_counted}
use Rattle.unit_messages.proofs.Joints.{then_passed}

-- the entries of a ring stand behind its pointer
pub ring_is : (place : ℕ) (e : Entries) (x : List ℕ) → e.base ≡ place + 4
    → chosen_in_ring place e x ≡ chosen_at (shape_of e) e.choice x (order (shape_of e) (next (ring_of place e) (pointer (ring_of place e) x)))
unfolding ring_indices
ring_is place e x at =
    let here : (i : ℕ) → place + 4 + i * e.width ≡ e.base + 0 + i * e.width = λ i. omega (arith, at) in
    let gate : (i : ℕ) → place + 4 + i * e.width + e.gate ≡ e.base + 0 + i * e.width + e.gate = λ i. omega (arith, at) in
    λ t. filter (chosen e.choice) (map (λ i. bytes_at x (here i t) e.width) (filter (λ i. not (number_at x (gate i t) 4 == 0)) (order (shape_of e) (next (ring_of place e) (pointer (ring_of place e) x)))))

-- where each entry is meant, those of a table
filter_all : (l : List (List ℕ)) → filter (chosen AnyEntry) l ≡ l
filter_all [] = refl
filter_all (a ∷ l) = ap (λ (m : List (List ℕ)). a ∷ m) (filter_all l)

-- and all blocks of detailed speed
pub speeds_are : (x : List ℕ) → chosen_in_ring SPEEDS.place speed_blocks x ≡ ring_list speed_ring x
speeds_are x = filter_all (ring_list speed_ring x)

pub table_is : (e : Entries) (x : List ℕ) → e.choice ≡ AnyEntry → chosen_at (shape_of e) e.choice x (range_with_len 0 e.count) ≡ entries_in (shape_of e) x
table_is e x each = ap (λ (c : Choice). chosen_at (shape_of e) c x (range_with_len 0 e.count)) each ∙ filter_all (entries_in (shape_of e) x)

-- each index of the order is one
pub order_below : (e : Entries) (turn : ℕ) → turn ≤ e.count → Each (λ j. j < e.count) (order (shape_of e) turn)
order_below e turn low =
    each_append (λ j. j < e.count) (range_with_len turn (e.count - turn)) (range_with_len 0 turn)
    (range_each (λ j. j < e.count) turn (e.count - turn) (λ j from to. omega (arith, from, to, low))) (range_each (λ j. j < e.count) 0 turn (λ j from to. omega (arith, to, low)))

-- how many bytes the entries have
pub ring_long : (place : ℕ) (e : Entries) (x : List ℕ) → AreEntries e → IMAGE_SIZE ≤ length x → e.base ≡ place + 4 → next (ring_of place e) (pointer (ring_of place e) x) ≤ e.count
    → length (joined (chosen_in_ring place e x)) ≡ length (chosen_in_ring place e x) * e.width
ring_long place e x are whole at low =
    let turn = next (ring_of place e) (pointer (ring_of place e) x) in
    subst (λ (l : List (List ℕ)). length (joined l) ≡ length l * e.width) (sym (ring_is place e x at)) (all_counted e are x whole (order (shape_of e) turn) (order_below e turn low))

-- the entries of a ring have passed by in its order, from the index behind its pointer
pub ring_passed : (place : ℕ) (e : Entries) (x : List ℕ) (u v w : Sight) (p turn : ℕ) → e.base ≡ place + 4 → p ≡ number_at x place 4 → turn ≡ next (ring_of place e) p → v ≡ w
    → u ≡ passed v (joined (chosen_at (shape_of e) e.choice x (order (shape_of e) turn))) → u ≡ passed w (joined (chosen_in_ring place e x))
ring_passed place e x u v w p turn at number is same after =
    after ∙ ap (λ (s : Sight). passed s (joined (chosen_at (shape_of e) e.choice x (order (shape_of e) turn)))) same
    ∙ ap (λ (n : ℕ). passed w (joined (chosen_at (shape_of e) e.choice x (order (shape_of e) n)))) (is ∙ ap (next (ring_of place e)) number)
    ∙ ap (λ (l : List (List ℕ)). passed w (joined l)) (sym (ring_is place e x at))

-- how many bytes the entries of a table have
pub table_long : (e : Entries) (x : List ℕ) → AreEntries e → IMAGE_SIZE ≤ length x → e.choice ≡ AnyEntry → length (joined (entries_in (shape_of e) x)) ≡ length (entries_in (shape_of e) x) * e.width
table_long e x are whole each =
    subst (λ (l : List (List ℕ)). length (joined l) ≡ length l * e.width) (table_is e x each)
    (all_counted e are x whole (range_with_len 0 e.count) (range_each (λ j. j < e.count) 0 e.count (λ j from to. omega (arith, to))))

-- the entries of a table have passed by behind their count: passed over, or read
pub table_over : (e : Entries) (x : List ℕ) (u v w : Sight) (n : ℕ) → AreEntries e → IMAGE_SIZE ≤ length x → e.choice ≡ AnyEntry → n ≡ length (entries_in (shape_of e) x) → v ≡ passed w (big_bytes 1 n)
    → ((bytes : List ℕ) → length bytes ≡ n * e.width → u ≡ passed v bytes) → u ≡ passed w (counted 1 (entries_in (shape_of e) x))
table_over e x u v w n are whole each many first over =
    let es = entries_in (shape_of e) x in
    let long : length (joined es) ≡ n * e.width = table_long e x are whole each ∙ ap (λ (m : ℕ). m * e.width) (sym many) in
    then_passed u v w (big_bytes 1 n) (joined es) first (over (joined es) long) ∙ ap (λ (m : ℕ). passed w (big_bytes 1 m ++ joined es)) many

order_first : (e : Entries) → order (shape_of e) 0 ≡ range_with_len 0 e.count
order_first e = append-nil (range_with_len 0 (e.count - 0)) ∙ ap (range_with_len 0) (let all : e.count - 0 ≡ e.count = omega arith in all)

pub table_read : (e : Entries) (x : List ℕ) (u v s w : Sight) (n : ℕ) → e.choice ≡ AnyEntry → n ≡ length (entries_in (shape_of e) x) → v ≡ passed w (big_bytes 1 n) → s ≡ v
    → u ≡ passed s (joined (chosen_at (shape_of e) e.choice x (order (shape_of e) 0))) → u ≡ passed w (counted 1 (entries_in (shape_of e) x))
table_read e x u v s w n each many first same after =
    let es = entries_in (shape_of e) x in
    let next : u ≡ passed v (joined es) =
    after ∙ ap (λ (q : Sight). passed q (joined (chosen_at (shape_of e) e.choice x (order (shape_of e) 0)))) same
    ∙ ap (λ (l : List (List ℕ)). passed v (joined l)) (ap (chosen_at (shape_of e) e.choice x) (order_first e) ∙ table_is e x each) in
    then_passed u v w (big_bytes 1 n) (joined es) first next ∙ ap (λ (m : ℕ). passed w (big_bytes 1 m ++ joined es)) many

-- those of a table by its shape
pub by_shape : (r s : Shape) (x : List ℕ) (n : ℕ) (u w : Sight) → r ≡ s → (n ≡ length (entries_in r x) → u ≡ passed w (counted 1 (entries_in r x))) → n ≡ length (entries_in s x) → u ≡ passed w (counted 1 (entries_in s x))
by_shape r s x n u w same all = subst (λ (q : Shape). n ≡ length (entries_in q x) → u ≡ passed w (counted 1 (entries_in q x))) same all

-- the entries of a ring have passed by behind their count
pub counted_ring : (k place n : ℕ) (e f : Entries) (x : List ℕ) (u v w : Sight) → e ≡ f → v ≡ passed w (big_bytes k n)
    → (number_at x place 4 < e.count → n ≡ length (chosen_in_ring place e x) → u ≡ passed v (joined (chosen_in_ring place e x)))
    → number_at x place 4 < f.count → n ≡ length (chosen_in_ring place f x) → u ≡ passed w (counted k (chosen_in_ring place f x))
counted_ring k place n e f x u v w same first next low many =
    let es = chosen_in_ring place f x in
    let after : u ≡ passed v (joined es) =
    subst (λ (a : Entries). number_at x place 4 < a.count → n ≡ length (chosen_in_ring place a x) → u ≡ passed v (joined (chosen_in_ring place a x))) same next low many in
    then_passed u v w (big_bytes k n) (joined es) first after ∙ ap (λ (m : ℕ). passed w (big_bytes k m ++ joined es)) many

-- how many there are of a ring, counted from its first place on
pub ring_counted : (place n : ℕ) (e f : Entries) (x : List ℕ) → e ≡ f → f.base ≡ place + 4 → number_at x place 4 < f.count → n ≡ length (chosen_at (shape_of e) e.choice x (range_with_len 0 e.count))
    → n ≡ length (chosen_in_ring place f x)
ring_counted place n e f x same at low count =
    let base : e.base ≡ place + 4 = ap (λ (a : Entries). a.base) same ∙ at in
    let below : number_at x place 4 < e.count = subst (λ (a : Entries). number_at x place 4 < a.count) (sym same) low in
    let r = ring_of place e in
    let turn = next r (pointer r x) in
    let start : turn < e.count = next_below r (pointer r x) below in
    count ∙ sym (chosen_round (shape_of e) e.choice x turn (let less : turn ≤ e.count = omega (arith, start) in less))
    ∙ ap length (sym (ring_is place e x base)) ∙ ap (λ (a : Entries). length (chosen_in_ring place a x)) same

-- the words of a day have passed by behind their count
pub words_counted : (x : List ℕ) (u v w : Sight) (p n : ℕ) → v ≡ passed w (big_bytes 2 n) → u ≡ passed v (joined (word_bytes (words_at x p n))) → u ≡ passed w (counted 2 (word_bytes (words_at x p n)))
words_counted x u v w p n first next =
    let es = word_bytes (words_at x p n) in
    let many : n ≡ length es = sym (length-map (words_at x p n) (big_bytes 2) ∙ length-map-range_with_len (λ j. number_at x (p + 2 * j) 2) 0 n) in
    then_passed u v w (big_bytes 2 n) (joined es) first next ∙ ap (λ (m : ℕ). passed w (big_bytes 2 m ++ joined es)) many

-- how many there are of a table
pub table_many : (e f : Entries) (x : List ℕ) (n : ℕ) → e ≡ f → f.choice ≡ AnyEntry → n ≡ length (chosen_at (shape_of e) e.choice x (range_with_len 0 e.count)) → n ≡ length (entries_in (shape_of f) x)
table_many e f x n same each count =
    count ∙ ap length (table_is e x (ap (λ (a : Entries). a.choice) same ∙ each)) ∙ ap (λ (a : Entries). length (entries_in (shape_of a) x)) same
