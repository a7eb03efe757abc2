use Rattle.std.proofs.Common.{◌≡◌, ◌∙◌, ℕ, ◌-◌, List, length, take, drop, ap, sym, refl, arith}
use Rattle.std.specs.Prelude.{slice_index}
use Rattle.std.proofs.Math.Seq.{take-length}
use Rattle.std.proofs.lemmas.List.{length-drop}
use Rattle.byteorder.specs.Endian.{big_number}
use Rattle.card_layout.specs.Images.{bytes_at}
use Rattle.file_extract.proofs.Spelling.{entry_here}
use Rattle.file_extract.proofs.entries.entry_at.Goals as goal

pub returns-clause-some : goal.returns-clause-some
returns-clause-some c =
    let rest : take (length c.args.b.now - c.args.place) (drop c.args.place c.args.b.now) ≡ drop c.args.place c.args.b.now = ap (λ (n : ℕ). take n (drop c.args.place c.args.b.now)) (sym (length-drop c.args.place c.args.b.now)) ∙ take-length (drop c.args.place c.args.b.now) in
    let long : length (take (length c.args.b.now - c.args.place) (drop c.args.place c.args.b.now)) ≡ length (drop c.args.place c.args.b.now) = ap (λ (l : List ℕ). length l) rest in (
      refl,
      entry_here c.args.b.now (record { fid = c.read_u16-fid.result; kind = slice_index (take (length c.args.b.now - c.args.place) (drop c.args.place c.args.b.now)) 2; place = c.args.place; len = c.read_u16-len.result })
          (λ i. omega (arith, c.type_inv.b i)) c.requires.inside (omega (arith, c.if-rest-lt-FILE_HEAD.false, long)) (omega (arith, c.if-left-len.false, c.if-rest-lt-FILE_HEAD.false, long)) (omega (arith, c.if-kind-gt-LAST_KIND.false))
          (omega arith) (omega arith)
          (c.read_u16-fid.ensures ∙ ap (λ (l : List ℕ). big_number 2 (bytes_at l 0 2)) rest)
          (ap (λ (l : List ℕ). slice_index l 2) rest)
          (c.read_u16-len.ensures ∙ ap (λ (l : List ℕ). big_number 2 (bytes_at l 3 2)) rest),
    )
