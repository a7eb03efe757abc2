use Rattle.std.proofs.Common.{◌≡◌, ℕ, ◌+◌, ◌-◌, ◌≤◌, List, [], ◌∷◌, Option, ◌++◌, IfSome, length, take, drop, arith, ◌∙◌, sym, ap, subst, refl, length-drop, length-append, take-append-drop}
use Rattle.std.proofs.lemmas.List.{length-take-le, append-nil}
use Rattle.std.proofs.lemmas.Slice.{take-put_mid, drop-put_mid}
use borrow.Rule.Slice.PartMut.{put_mid, post_of}
use Rattle.tach_media.specs.Medium.{bytes_at}
use Rattle.tach_media.proofs.Runs.{both_told}
use Rattle.card_model.specs.Image.{StringShape, IsStringShape, at}
use Rattle.card_model.proofs.Reading.{round_parts}
use Rattle.card_days.proofs.circle.Circle.read_broken.Goals as goal

drop_whole : (l : List ℕ) → drop (length l) l ≡ []
drop_whole [] = refl
drop_whole (x ∷ l) = drop_whole l

-- what stands after both parts were read
two_parts : (out a b : List ℕ) (room len : ℕ) → len ≡ length out → room ≤ len → length a ≡ room → length b ≡ len - room → put_mid room (len - room) (put_mid 0 (room - 0) out a) b ≡ a ++ b
two_parts out a b room len long within a_long b_long =
    let xs : List ℕ = put_mid 0 (room - 0) out a in
    let xs_long : room ≤ length (put_mid 0 (room - 0) out a) = omega (arith, length-append a (post_of 0 (room - 0) out), a_long) in
    let front : take room (put_mid 0 (room - 0) out a) ≡ a = take-put_mid 0 (room - 0) out a room (omega (arith, a_long)) (omega arith) in
    let taken : take len (put_mid room (len - room) xs b) ≡ a ++ b = take-put_mid room (len - room) xs b len (omega (arith, b_long, within)) xs_long ∙ ap (λ (l : List ℕ). l ++ b) front in
    let dropped : drop len (put_mid room (len - room) xs b) ≡ [] =
    drop-put_mid room (len - room) xs b len (omega (arith, within)) xs_long b_long ∙ drop-put_mid 0 (room - 0) out a len (omega (arith, within)) (omega arith) (omega (arith, a_long)) ∙ ap (λ (n : ℕ). drop n out) long ∙ drop_whole out in
    sym (take-append-drop len (put_mid room (len - room) xs b)) ∙ ap (λ (l : List ℕ). l ++ drop len (put_mid room (len - room) xs b)) taken ∙ ap (λ (l : List ℕ). (a ++ b) ++ l) dropped ∙ append-nil (a ++ b)

pub returns-clause-bytes : goal.returns-clause-bytes
returns-clause-bytes g c =
    let r = c.args.self.now in
    let p = c.args.place in
    let size : c.self.inside.size ≡ r.size = ap (λ (s : StringShape). s.size) c.self.view_is in
    let base : c.self.inside.base ≡ r.base = ap (λ (s : StringShape). s.base) c.self.view_is in
    let room : ℕ = c.self.inside.size - c.args.place in
    let rest : ℕ = length c.args.out.now - (c.self.inside.size - c.args.place) in
    let within : c.self.inside.size - c.args.place ≤ length c.args.out.now = omega (arith, size, c.requires.breaks) in
    let part : length (take (c.self.inside.size - c.args.place - 0) (drop 0 c.args.out.now)) ≡ c.self.inside.size - c.args.place = length-take-le (c.self.inside.size - c.args.place - 0) c.args.out.now (omega (arith, within)) ∙ omega arith in
    let a_long : length c.read_at.new.out ≡ c.self.inside.size - c.args.place = c.read_at.auto.out ∙ part in
    let xs : List ℕ = put_mid 0 (c.self.inside.size - c.args.place - 0) c.args.out.now c.read_at.new.out in
    let behind : drop (c.self.inside.size - c.args.place) xs ≡ drop (c.self.inside.size - c.args.place) c.args.out.now =
    drop-put_mid 0 (c.self.inside.size - c.args.place - 0) c.args.out.now c.read_at.new.out room (omega arith) (omega arith) (omega (arith, a_long)) in
    let rest_long : length (take (length c.args.out.now - (c.self.inside.size - c.args.place)) (drop (c.self.inside.size - c.args.place) xs)) ≡ length c.args.out.now - (c.self.inside.size - c.args.place) =
    ap (λ (l : List ℕ). length (take rest l)) behind ∙ length-take-le rest (drop room c.args.out.now) (omega (arith, length-drop room c.args.out.now)) in
    let b_long : length c.read_at-2.new.out ≡ length c.args.out.now - (c.self.inside.size - c.args.place) = c.read_at-2.auto.out ∙ rest_long in
    let whole : put_mid (c.self.inside.size - c.args.place) (length c.args.out.now - (c.self.inside.size - c.args.place)) (put_mid 0 (c.self.inside.size - c.args.place - 0) c.args.out.now c.read_at.new.out) c.read_at-2.new.out ≡ c.read_at.new.out ++ c.read_at-2.new.out =
    two_parts c.args.out.now c.read_at.new.out c.read_at-2.new.out room (length c.args.out.now) refl within a_long b_long in
    both_told (g.M.Medium.state c.args.medium.now).image _ c.in_ok-read_at.ensures.bytes
    (subst (λ (o : Option (List ℕ)). IfSome o (λ x. c.read_at-2.new.out ≡ bytes_at x (c.self.inside.base + 4) (length (take rest (drop room xs))))) (c.in_ok-read_at.ensures.reads.same refl) c.in_ok-read_at-2.ensures.bytes) (λ x was first next.
    whole
    ∙ ap (λ (l : List ℕ). l ++ c.read_at-2.new.out) (first ∙ parts x (c.self.inside.base + 4 + c.args.place) (at r p) (length (take (room - 0) (drop 0 c.args.out.now))) (r.size - p) (omega (arith, base)) (part ∙ omega (arith, size)))
    ∙ ap (λ (l : List ℕ). bytes_at x (at r p) (r.size - p) ++ l) (next ∙ parts x (c.self.inside.base + 4) (at r 0) (length (take rest (drop room xs))) (length c.args.out.now - (r.size - p)) (omega (arith, base)) (rest_long ∙ omega (arith, size)))
    ∙ sym (round_parts r (subst (λ (s : StringShape). IsStringShape s) c.self.view_is c.self.invariant) x (omega (arith, c.requires.fits, (g.met.M.Medium.coherent c.args.medium.now).sized x was)) p (length c.args.out.now) c.requires.pointer.below (omega (arith, c.requires.breaks)) (omega (arith, c.requires.short, (subst (λ (s : StringShape). IsStringShape s) c.self.view_is c.self.invariant).low))))
  where
    parts : (x : List ℕ) (m n i j : ℕ) → m ≡ n → i ≡ j → bytes_at x m i ≡ bytes_at x n j
    parts x m n i j place len = ap (λ (k : ℕ). bytes_at x k i) place ∙ ap (λ (k : ℕ). bytes_at x n k) len
