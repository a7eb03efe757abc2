use Rattle.std.proofs.Common.{◌≡◌, ◌∙◌, ℕ, List, true, false, sym, ap, subst, arith}
use Rattle.file_extract.specs.declared.entries.DownloadEntry.{DownloadEntry}
use Rattle.file_extract.specs.Cards.{comes_again}
use Rattle.file_extract.specs.Reading.{told, told_at}
use Rattle.file_extract.proofs.Downloads.{UpTo, none_yet, one_more, stops_none, stops_again, stops_end}
use Rattle.file_extract.proofs.entries.entries_in.Goals as goal

pub loop-place-init : goal.loop-place-init
loop-place-init c = none_yet c.args.b.now c.new-entries.result.items c.new-entries.ensures.items

pub loop-place-preserved : goal.loop-place-preserved
loop-place-preserved c =
    let b = c.args.b.now in
    let at = c.in-Some.entry in
    let other : comes_again (told c.args.b.now c.loop-place.entries.items) (told_at c.args.b.now c.in-Some.entry) ≡ false =
    ap (λ (l : List DownloadEntry). comes_again (told c.args.b.now l) (told_at c.args.b.now c.in-Some.entry)) (sym c.as_slice.ensures.value) ∙ sym (c.comes_again.ensures c.args.b.now) ∙ c.if-comes_again.false in
    subst (λ (p : ℕ). UpTo c.args.b.now p c.add_entry.new.entries.items) (sym c.end-place.ensures)
    (one_more b c.loop-place.place c.loop-place.entries.items c.add_entry.new.entries.items at c.loop-place.invariant c.in-Some.ensures.some.0 c.in-Some.ensures.some.1 other c.in_ok-add_entry.ensures)

pub returns-in_default : goal.returns-in_default
returns-in_default c = stops_none c.args.b.now _ c.loop-place.invariant c.in_default.ensures.none

pub returns-then-comes_again : goal.returns-then-comes_again
returns-then-comes_again c =
    let again : comes_again (told c.args.b.now c.loop-place.entries.items) (told_at c.args.b.now c.in-Some.entry) ≡ true =
    ap (λ (l : List DownloadEntry). comes_again (told c.args.b.now l) (told_at c.args.b.now c.in-Some.entry)) (sym c.as_slice.ensures.value) ∙ sym (c.comes_again.ensures c.args.b.now) ∙ c.if-comes_again.true in
    stops_again c.args.b.now _ c.loop-place.invariant c.in-Some.entry c.in-Some.ensures.some.0 c.in-Some.ensures.some.1 again

pub returns : goal.returns
returns c = stops_end c.args.b.now _ c.loop-place.invariant (omega (arith, c.loop-place-test.false))
