-- How a window changes as bytes pass by.
use Rattle.std.proofs.Common.{◌≡◌, ⊎_elim, Option, Some, IfSome, subst, ℕ, zero, suc, ◌+◌, ◌-◌, ◌*◌, ◌/◌, ◌≤◌, min, List, [], ◌∷◌, ◌++◌, length, take, drop, refl, sym, ◌∙◌, ap, append_assoc, length-append, arith}
use Rattle.std.proofs.lemmas.List.{append-nil, length-take, length-drop, drop_all, take_all, take_min, drop_min, map-append}
use Rattle.card_layout.specs.Images.{bytes_at, number_at}
use Rattle.card_layout.specs.Fields.{joined, IsBytes}
use Rattle.card_layout.proofs.Images.{part_split, part_in}
use Rattle.unit_model.specs.Image.{words_at}
use Rattle.unit_model.proofs.Words.{words_split}
use Rattle.message_model.specs.Messages.{word_bytes}
use Rattle.byteorder.specs.Endian.{big_bytes}
use Rattle.byteorder.specs.Numbers.{length-bytes_high_first}
use Rattle.tach_media.proofs.Runs.{both_told}
use Rattle.unit_memory.proofs.Heads.{block_words}
use Rattle.unit_messages.specs.Windows.{Sight, passed, IsFull, IsWordCount}
use Rattle.unit_messages.proofs.Choosing.{joined_both}

drop_both : (s : ℕ) (a b : List ℕ) → drop s (a ++ b) ≡ drop s a ++ drop (s - length a) b
drop_both zero a b = ap (λ (n : ℕ). a ++ drop n b) (let e : 0 ≡ 0 - length a = omega arith in e)
drop_both (suc s) [] b = ap (λ (n : ℕ). drop n b) (let e : suc s ≡ suc s - 0 = omega arith in e)
drop_both (suc s) (x ∷ a) b = drop_both s a b ∙ ap (λ (n : ℕ). drop s a ++ drop n b) (let e : s - length a ≡ suc s - suc (length a) = omega arith in e)

take_both : (n : ℕ) (a b : List ℕ) → take n (a ++ b) ≡ take n a ++ take (n - length a) b
take_both zero a b = ap (λ (m : ℕ). take m b) (let e : 0 ≡ 0 - length a = omega arith in e)
take_both (suc n) [] b = ap (λ (m : ℕ). take m b) (let e : suc n ≡ suc n - 0 = omega arith in e)
take_both (suc n) (x ∷ a) b = ap (λ (l : List ℕ). x ∷ l) (take_both n a b) ∙ ap (λ (m : ℕ). x ∷ take n a ++ take m b) (let e : n - length a ≡ suc n - suc (length a) = omega arith in e)

-- bytes that pass by in two parts
pub passed_both : (w : Sight) (a b : List ℕ) → passed (passed w a) b ≡ passed w (a ++ b)
passed_both w a b =
    let room = 252 - length w.held in
    let here = take room (drop w.skip a) in
    let left : 252 - length (w.held ++ here) ≡ room - length (drop w.skip a) = omega (arith, length-append w.held here, length-take room (drop w.skip a)) in
    let skips : w.skip - length a - length b ≡ w.skip - length (a ++ b) = omega (arith, length-append a b) in
    let holds : (w.held ++ here) ++ take (252 - length (w.held ++ here)) (drop (w.skip - length a) b) ≡ w.held ++ take room (drop w.skip (a ++ b)) =
    append_assoc w.held here (take (252 - length (w.held ++ here)) (drop (w.skip - length a) b))
    ∙ ap (λ (n : ℕ). w.held ++ (here ++ take n (drop (w.skip - length a) b))) left
    ∙ ap (λ (l : List ℕ). w.held ++ l) (sym (take_both room (drop w.skip a) (drop (w.skip - length a) b)) ∙ ap (take room) (sym (drop_both w.skip a b))) in
    λ t. record { skip = skips t; held = holds t }

pub passed_none : (w : Sight) → passed w [] ≡ w
passed_none w =
    let none : take (252 - length w.held) (drop w.skip []) ≡ [] = take_all_nil (252 - length w.held) (drop w.skip []) (drop_all w.skip [] (omega arith)) in
    λ t. record { skip = (let e : w.skip - 0 ≡ w.skip = omega arith in e) t; held = (ap (λ (l : List ℕ). w.held ++ l) none ∙ append-nil w.held) t }
  where
    take_all_nil : (n : ℕ) (l : List ℕ) → l ≡ [] → take n l ≡ []
    take_all_nil n l is = ap (take n) is ∙ take_all n [] (omega arith)

-- a full window takes none
pub passed_full : (w : Sight) (b : List ℕ) → IsFull w → passed w b ≡ w
passed_full w b full =
    let skips : w.skip - length b ≡ w.skip = omega (arith, full.begun) in
    let none : 252 - length w.held ≡ 0 = omega (arith, full.whole) in
    λ t. record { skip = skips t; held = (ap (λ (n : ℕ). w.held ++ take n (drop w.skip b)) none ∙ append-nil w.held) t }

-- bytes that are passed over
pub passed_over : (w : Sight) (b : List ℕ) → length b ≤ w.skip → passed w b ≡ record { skip = w.skip - length b; held = w.held }
passed_over w b few =
    let none : take (252 - length w.held) (drop w.skip b) ≡ [] = ap (take (252 - length w.held)) (drop_all w.skip b few) ∙ take_all (252 - length w.held) [] (omega arith) in
    λ t. record { skip = w.skip - length b; held = (ap (λ (l : List ℕ). w.held ++ l) none ∙ append-nil w.held) t }

-- the bytes of words that are bytes
pub words_spelled : (b : List ℕ) (n : ℕ) → IsBytes b → length b ≡ 2 * n → joined (word_bytes (words_at b 0 n)) ≡ b
words_spelled b n fits long = words_from b 0 n fits (omega (arith, long)) ∙ take_all (2 * n) b (omega (arith, long))
  where
    words_from : (b : List ℕ) (p n : ℕ) → IsBytes b → p + 2 * n ≤ length b → joined (word_bytes (words_at b p n)) ≡ bytes_at b p (2 * n)
    words_from b p zero fits inside = refl
    words_from b p (suc n) fits inside =
        let first : number_at b (p + 2 * 0) 2 ≡ number_at b p 2 = ap (λ (q : ℕ). number_at b q 2) (omega arith) in
        let here : length (bytes_at b p 2) ≡ 2 = omega (arith, length-take 2 (drop p b), length-drop p b, inside) in
        ap (λ (m : ℕ). joined (word_bytes (words_at b p m))) (let e : suc n ≡ 1 + n = omega arith in e)
        ∙ ap (λ (l : List ℕ). joined (word_bytes l)) (words_split b p 1 n)
        ∙ ap (λ (v : ℕ). Rattle.byteorder.specs.Endian.big_bytes 2 v ++ joined (word_bytes (words_at b (p + 2 * 1) n))) first
        ∙ ap (λ (l : List ℕ). l ++ joined (word_bytes (words_at b (p + 2 * 1) n)))
        (Rattle.card_layout.proofs.Numbers.big_bytes-big_number 2 (bytes_at b p 2) here (Rattle.card_layout.proofs.Cuts.IsBytes-take 2 (drop p b) (Rattle.card_layout.proofs.Cuts.IsBytes-drop p b fits)))
        ∙ ap (λ (l : List ℕ). bytes_at b p 2 ++ l) (words_from b (p + 2 * 1) n fits (omega (arith, inside)))
        ∙ sym (part_split b p 2 (2 * n)) ∙ ap (bytes_at b p) (let e : 2 + 2 * n ≡ 2 * suc n = omega arith in e)

-- what is taken of bytes: as many as there is room for, of those that are not passed over
pub taken_is : (w : Sight) (b : List ℕ) (over some : ℕ) → over ≡ min (length b) w.skip → some ≡ min (length (drop over b)) (252 - length w.held)
    → record { skip = w.skip - over; held = w.held ++ take some (drop over b) } ≡ passed w b
taken_is w b over some is many =
    let skips : w.skip - over ≡ w.skip - length b = omega (arith, is) in
    let behind : drop over b ≡ drop w.skip b = ap (λ (n : ℕ). drop n b) (let e : over ≡ min w.skip (length b) = omega (arith, is) in e) ∙ drop_min w.skip b in
    let count : some ≡ min (252 - length w.held) (length (drop over b)) = omega (arith, many) in
    let holds : take some (drop over b) ≡ take (252 - length w.held) (drop w.skip b) =
    ap (λ (n : ℕ). take n (drop over b)) count ∙ take_min (252 - length w.held) (drop over b) ∙ ap (take (252 - length w.held)) behind in
    λ t. record { skip = skips t; held = w.held ++ holds t }

-- a range of an image, of which a part was read
pub range_passed : (w : Sight) (x block : List ℕ) (place len over taken : ℕ) → place + len ≤ length x → over ≡ min len w.skip → taken ≡ min (len - w.skip) (252 - length w.held) → block ≡ bytes_at x (place + over) taken
    → record { skip = w.skip - over; held = w.held ++ block } ≡ passed w (bytes_at x place len)
range_passed w x block place len over taken inside is many read =
    let b = bytes_at x place len in
    let long : length b ≡ len = omega (arith, length-take len (drop place x), length-drop place x, inside) in
    let part : block ≡ take taken (drop over b) = read ∙ sym (part_in x place len over taken (omega (arith, is, many))) in
    ap (λ (l : List ℕ). let r : Sight = record { skip = w.skip - over; held = w.held ++ l } in r) part
    ∙ taken_is w b over taken (omega (arith, is, long)) (omega (arith, many, is, long, length-drop over b))

-- two windows that see the same
pub sights : (v w : Sight) → v.skip ≡ w.skip → v.held ≡ w.held → v ≡ w
sights v w skips holds = λ t. record { skip = skips t; held = holds t }

-- bytes of which a part was taken
pub bytes_passed : (v w : Sight) (b : List ℕ) (over taken : ℕ) → over ≡ min (length b) w.skip → taken ≡ min (length b - w.skip) (252 - length w.held)
    → v.skip ≡ w.skip - over → v.held ≡ w.held ++ take taken (drop over b) → v ≡ passed w b
bytes_passed v w b over taken is many skips holds =
    sights v (record { skip = w.skip - over; held = w.held ++ take taken (drop over b) }) skips holds
    ∙ taken_is w b over taken is (omega (arith, is, many, length-drop over b))

-- none were read
pub none_read : (out x : List ℕ) (place : ℕ) → length out ≡ 0 → out ≡ bytes_at x place (length out)
none_read [] x place none = refl
none_read (b ∷ out) x place none = absurd (omega (arith, none))

-- a range of a told image, of which a part was read
pub range_told : (v w : Sight) (o : Option (List ℕ)) (block : List ℕ) (place len over taken n : ℕ) → over ≡ min len w.skip → taken ≡ min (len - w.skip) (252 - length w.held) → n ≡ taken
    → v.skip ≡ w.skip - over → v.held ≡ w.held ++ block → ((x : List ℕ) → o ≡ Some x → place + len ≤ length x) → IfSome o (λ x. block ≡ bytes_at x (place + over) n)
    → IfSome o (λ x. v ≡ passed w (bytes_at x place len))
range_told v w o block place len over taken n is many all skips holds inside read =
    both_told o (λ x. v ≡ passed w (bytes_at x place len)) read read (λ x told bytes _.
    sights v (record { skip = w.skip - over; held = w.held ++ block }) skips holds
    ∙ range_passed w x block place len over taken (inside x told) is many (bytes ∙ ap (bytes_at x (place + over)) all))

-- the bytes of words in two parts, and how many there are
words_joined : (x : List ℕ) (a m n : ℕ) → joined (word_bytes (words_at x a (m + n))) ≡ joined (word_bytes (words_at x a m)) ++ joined (word_bytes (words_at x (a + 2 * m) n))
words_joined x a m n =
    ap (λ (l : List ℕ). joined (word_bytes l)) (words_split x a m n)
    ∙ ap joined (map-append (big_bytes 2) (words_at x a m) (words_at x (a + 2 * m) n))
    ∙ joined_both (word_bytes (words_at x a m)) (word_bytes (words_at x (a + 2 * m) n))

pub words_long : (x : List ℕ) (a n : ℕ) → length (joined (word_bytes (words_at x a n))) ≡ 2 * n
words_long x a zero = refl
words_long x a (suc n) =
    let v = number_at x (a + 2 * 0) 2 in
    let rest = joined (word_bytes (words_at x (a + 2 * 1) n)) in
    let split : joined (word_bytes (words_at x a (suc n))) ≡ big_bytes 2 v ++ rest =
    ap (λ (m : ℕ). joined (word_bytes (words_at x a m))) (let e : suc n ≡ 1 + n = omega arith in e)
    ∙ ap (λ (l : List ℕ). joined (word_bytes l)) (words_split x a 1 n) in
    let more : length rest ≡ 2 * n = words_long x (a + 2 * 1) n in
    let two : length (big_bytes 2 v) ≡ 2 = length-bytes_high_first 2 v in
    omega (arith, ap length split, length-append (big_bytes 2 v) rest, two, more)

-- words behind those that were read: none, or the window is full
words_behind : (v w u : Sight) (x block : List ℕ) (count over taken p rest : ℕ) → length w.held ≤ 252 → over ≡ min count (w.skip / 2) → u.skip ≡ w.skip - 2 * over → u.held ≡ w.held
    → IsWordCount u (count - over) taken → length block ≡ 2 * taken → v ≡ passed u block → rest ≡ count - over - taken → passed v (joined (word_bytes (words_at x p rest))) ≡ v
words_behind v w u x block count over taken p zero room is skips holds many long after left = passed_none v
words_behind v w u x block count over taken p (suc rest) room is skips holds many long after left = passed_full v (joined (word_bytes (words_at x p (suc rest)))) (subst IsFull (sym after) full)
  where
    still : IsFull u × (taken ≡ 0) → IsFull (passed u block)
    still both = subst IsFull (sym (passed_full u block both.0)) both.0

    filled : taken ≡ min (count - over) 127 → IsFull (passed u block)
    filled few =
        let most : taken ≡ 127 = omega (arith, few, left) in
        let near : u.skip ≤ 1 = omega (arith, is, skips, few, left) in
        let size : length u.held ≡ length w.held = ap length holds in
        record {
          begun = omega (arith, near, long, most);
          whole = omega (arith, near, long, most, size, room, length-append u.held (take (252 - length u.held) (drop u.skip block)), length-take (252 - length u.held) (drop u.skip block), length-drop u.skip block);
        }

    full : IsFull (passed u block)
    full = ⊎_elim still filled many

-- words of an image, of which a part was read
words_passed : (v w u : Sight) (x block : List ℕ) (place count over taken : ℕ) → length w.held ≤ 252 → over ≡ min count (w.skip / 2) → u.skip ≡ w.skip - 2 * over → u.held ≡ w.held
    → IsWordCount u (count - over) taken → joined (word_bytes (words_at block 0 taken)) ≡ block → length block ≡ 2 * taken → v ≡ passed u block → block ≡ bytes_at x (place + 2 * over) (2 * taken)
    → v ≡ passed w (joined (word_bytes (words_at x place count)))
words_passed v w u x block place count over taken room is skips holds many spelled long after read =
    let p = place + 2 * over in
    let rest = count - over - taken in
    let a = joined (word_bytes (words_at x place over)) in
    let b = joined (word_bytes (words_at x p taken)) in
    let c = joined (word_bytes (words_at x (p + 2 * taken) rest)) in
    let fits : taken ≤ count - over = ⊎_elim (λ (both : IsFull u × (taken ≡ 0)). omega (arith, both.1)) (λ (few : taken ≡ min (count - over) 127). omega (arith, few)) many in
    let whole : count ≡ over + (taken + rest) = omega (arith, is, fits) in
    let split : joined (word_bytes (words_at x place count)) ≡ a ++ (b ++ c) =
    ap (λ (n : ℕ). joined (word_bytes (words_at x place n))) whole ∙ words_joined x place over (taken + rest) ∙ ap (λ (l : List ℕ). a ++ l) (words_joined x p taken rest) in
    let size : length a ≡ 2 * over = words_long x place over in
    let few : length a ≤ w.skip = omega (arith, size, is) in
    let first : passed w a ≡ u =
    passed_over w a few ∙ sym (sights u (record { skip = w.skip - length a; held = w.held }) (skips ∙ (let e : w.skip - 2 * over ≡ w.skip - length a = omega (arith, size) in e)) holds) in
    let same : b ≡ block = sym (ap (λ (l : List ℕ). joined (word_bytes l)) (block_words x block p (2 * taken) taken read (omega arith))) ∙ spelled in
    let stays : passed v c ≡ v = words_behind v w u x block count over taken (p + 2 * taken) rest room is skips holds many long after refl in
    sym (ap (passed w) split
    ∙ sym (passed_both w a (b ++ c))
    ∙ ap (λ (s : Sight). passed s (b ++ c)) first
    ∙ sym (passed_both u b c)
    ∙ ap (λ (l : List ℕ). passed (passed u l) c) same
    ∙ ap (λ (s : Sight). passed s c) (sym after)
    ∙ stays)

-- words of a told image, of which a part was read
pub words_told : (v w u : Sight) (o : Option (List ℕ)) (block : List ℕ) (place count over taken n : ℕ) → length w.held ≤ 252 → over ≡ min count (w.skip / 2) → u.skip ≡ w.skip - 2 * over → u.held ≡ w.held
    → IsWordCount u (count - over) taken → joined (word_bytes (words_at block 0 taken)) ≡ block → length block ≡ 2 * taken → v ≡ passed u block → n ≡ 2 * taken
    → IfSome o (λ x. block ≡ bytes_at x (place + 2 * over) n) → IfSome o (λ x. v ≡ passed w (joined (word_bytes (words_at x place count))))
words_told v w u o block place count over taken n room is skips holds many spelled long after all read =
    both_told o (λ x. v ≡ passed w (joined (word_bytes (words_at x place count)))) read read (λ x told bytes _.
    words_passed v w u x block place count over taken room is skips holds many spelled long after (bytes ∙ ap (bytes_at x (place + 2 * over)) all))

-- bytes of this number that are passed over
pub over_passed : (v w : Sight) (b : List ℕ) (n : ℕ) → length b ≡ n → n ≤ w.skip → v.skip ≡ w.skip - n → v.held ≡ w.held → v ≡ passed w b
over_passed v w b n long few skips holds =
    sights v (record { skip = w.skip - length b; held = w.held }) (skips ∙ ap (λ (m : ℕ). w.skip - m) (sym long)) holds ∙ sym (passed_over w b (omega (arith, long, few)))
