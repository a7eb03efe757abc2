use Rattle.std.proofs.Common.{◌≡◌, ◌∙◌, ℕ, List, length, map, drop, ap, sym, subst, arith}
use Rattle.card_layout.specs.Fields.{joined}
use Rattle.card_image.specs.CardFile.{FileEntry, entry_bytes}
use Rattle.file_extract.specs.declared.entries.DownloadEntry.{DownloadEntry}
use Rattle.file_extract.specs.Reading.{told, StandThere}
use Rattle.file_extract.specs.Passing.{passed_at}
use Rattle.file_extract.proofs.Passed.{stand_passed, told_passed, counted, passed_size}
use Rattle.file_extract.proofs.card.first_part.Goals as goal

pub bytes_of-requires : goal.bytes_of-requires
bytes_of-requires c =
    let picked : c.as_slice-2.result.now ≡ passed_at c.in_ok-read.read.entries.items = c.as_slice-2.ensures.value ∙ c.in_ok-passed.ensures ∙ ap passed_at c.as_slice.ensures.value in
    subst (StandThere c.args.b.now) (sym picked) (stand_passed c.args.b.now c.in_ok-read.read.entries.items c.in_ok-read.ensures.stand)

pub overflow_sub-second : goal.overflow_sub-second
overflow_sub-second c =
    let few = counted c.args.b.now c.in_ok-read.read.entries.items c.in_ok-passed.passed.items (c.in_ok-passed.ensures ∙ ap passed_at c.as_slice.ensures.value) in
    omega (arith, few, c.as_slice.ensures.len, c.as_slice-2.ensures.len, ap (λ (l : List DownloadEntry). length l) c.as_slice.ensures.value, ap (λ (l : List DownloadEntry). length l) c.as_slice-2.ensures.value, c.len.ensures, c.len-2.ensures)

pub returns-clause-part : goal.returns-clause-part
returns-clause-part c =
    let read = c.in_ok-read.ensures in
    let picked : c.as_slice-2.result.now ≡ passed_at c.in_ok-read.read.entries.items = c.as_slice-2.ensures.value ∙ c.in_ok-passed.ensures ∙ ap passed_at c.as_slice.ensures.value in
    let own : c.in_ok-passed.passed.items ≡ passed_at c.in_ok-read.read.entries.items = c.in_ok-passed.ensures ∙ ap passed_at c.as_slice.ensures.value in
    let few = counted c.args.b.now c.in_ok-read.read.entries.items c.in_ok-passed.passed.items own in
    record {
      entries = told c.args.b.now c.in_ok-read.read.entries.items;
      rest = drop c.in_ok-read.read.end c.args.b.now;
      download = read.download;
      stand = subst (StandThere c.args.b.now) (sym own) (stand_passed c.args.b.now c.in_ok-read.read.entries.items c.in_ok-read.ensures.stand);
      passed = ap (told c.args.b.now) own ∙ told_passed c.args.b.now c.in_ok-read.read.entries.items;
      bytes_are = c.in_ok-bytes.ensures ∙ ap (λ (l : List DownloadEntry). joined (map entry_bytes (told c.args.b.now l))) picked ∙ ap (λ (l : List FileEntry). joined (map entry_bytes l)) (told_passed c.args.b.now c.in_ok-read.read.entries.items);
      second = omega (arith, few, c.as_slice.ensures.len, c.as_slice-2.ensures.len, ap (λ (l : List DownloadEntry). length l) c.as_slice.ensures.value, ap (λ (l : List DownloadEntry). length l) c.as_slice-2.ensures.value, c.len.ensures, c.len-2.ensures);
      end_is = read.end_is;
    }

pub returns-clause-short : goal.returns-clause-short
returns-clause-short c =
    let read = c.in_ok-read.ensures in
    let picked : c.as_slice-2.result.now ≡ passed_at c.in_ok-read.read.entries.items = c.as_slice-2.ensures.value ∙ c.in_ok-passed.ensures ∙ ap passed_at c.as_slice.ensures.value in
    let out = c.in_ok-bytes.ensures ∙ ap (λ (l : List DownloadEntry). joined (map entry_bytes (told c.args.b.now l))) picked ∙ ap (λ (l : List FileEntry). joined (map entry_bytes l)) (told_passed c.args.b.now c.in_ok-read.read.entries.items) in
    omega (arith, ap (λ (l : List ℕ). length l) out, passed_size (told c.args.b.now c.in_ok-read.read.entries.items), read.end_is, read.inside)
