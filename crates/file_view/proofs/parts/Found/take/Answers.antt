use Rattle.std.proofs.Common.{◌≡◌, ◌≢◌, ◌∙◌, ◌&&◌, ℕ, List, Some, not, drop, refl, ap, sym, subst, arith}
use Rattle.std.specs.Prelude.{is_some}
use Rattle.std.specs.Bool.{OnTrue}
use Rattle.std.proofs.lemmas.List.{length-take-le, length-drop}
use Rattle.card_layout.specs.Application.{application_of}
use Rattle.file_view.specs.CardFiles.{are_sizes, are_days, are_vehicles}
use Rattle.file_view.specs.Reading.{told_at}
use Rattle.file_view.proofs.Finding.{passed_over, sizes_come, days_come, vehicles_come, value_yes, value_no}
use Rattle.file_view.proofs.parts.Found.take.Goals as goal

pub returns-then-entry-clause-taken : goal.returns-then-entry-clause-taken
returns-then-entry-clause-taken c = λ before s.
    let e = told_at c.args.b.now c.args.entry in
    let none : c.args.entry.kind ≡ 0 = omega (arith, c.if-entry-ne0.false) in
    let own : c.args.entry.fid ≡ 0x0501 = omega (arith, c.if-entry.true) in
    let no_days : c.args.entry.fid ≢ 0x0504 = omega (arith, own) in
    let no_vehicles : c.args.entry.fid ≢ 0x0505 = omega (arith, own) in
    sizes_come c.args.b.now c.args.self.now c.take_sizes.new.self before e c.take_sizes.result s
    (value_yes e 0x0501 none own) (value_no e 0x0504 no_days) (value_no e 0x0505 no_vehicles)
    (c.take_sizes.ensures.judged ∙ ap (λ (v : List ℕ). not (is_some c.args.self.now.app) && are_sizes v) c.value.ensures)
    (subst (λ (v : List ℕ). OnTrue c.take_sizes.result (c.take_sizes.new.self ≡ record c.args.self.now { app = Some (application_of v) })) c.value.ensures c.take_sizes.ensures.taken)

pub returns-then-entry-2-clause-sound : goal.returns-then-entry-2-clause-sound
returns-then-entry-2-clause-sound c = λ app is. c.requires.sound app (sym c.take_days.ensures.sound ∙ is)

pub returns-then-entry-3-clause-sound : goal.returns-then-entry-3-clause-sound
returns-then-entry-3-clause-sound c = λ app is. c.requires.sound app (sym c.take_vehicles.ensures.sound ∙ is)

pub returns-then-entry-2-clause-taken : goal.returns-then-entry-2-clause-taken
returns-then-entry-2-clause-taken c = λ before s.
    let e = told_at c.args.b.now c.args.entry in
    let none : c.args.entry.kind ≡ 0 = omega (arith, c.if-entry-ne0.false) in
    let own : c.args.entry.fid ≡ 0x0504 = omega (arith, c.if-entry-2.true) in
    let no_sizes : c.args.entry.fid ≢ 0x0501 = omega (arith, own) in
    let no_vehicles : c.args.entry.fid ≢ 0x0505 = omega (arith, own) in
    days_come c.args.b.now c.args.self.now c.take_days.new.self before e c.args.entry.place c.args.entry.len c.take_days.result s
    (value_no e 0x0501 no_sizes) (value_yes e 0x0504 none own) (value_no e 0x0505 no_vehicles) refl
    (length-take-le c.args.entry.len (drop c.args.entry.place c.args.b.now) (omega (arith, length-drop c.args.entry.place c.args.b.now, c.requires.inside))) c.requires.inside
    (c.take_days.ensures.judged ∙ ap (λ (v : List ℕ). not (is_some c.args.self.now.days) && are_days c.args.self.now.app v) c.value-then-entry-2.ensures)
    c.take_days.ensures.taken

pub returns-then-entry-3-clause-taken : goal.returns-then-entry-3-clause-taken
returns-then-entry-3-clause-taken c = λ before s.
    let e = told_at c.args.b.now c.args.entry in
    let none : c.args.entry.kind ≡ 0 = omega (arith, c.if-entry-ne0.false) in
    let own : c.args.entry.fid ≡ 0x0505 = omega (arith, c.if-entry-3.true) in
    let no_sizes : c.args.entry.fid ≢ 0x0501 = omega (arith, own) in
    let no_days : c.args.entry.fid ≢ 0x0504 = omega (arith, own) in
    vehicles_come c.args.b.now c.args.self.now c.take_vehicles.new.self before e c.args.entry.place c.args.entry.len c.take_vehicles.result s
    (value_no e 0x0501 no_sizes) (value_no e 0x0504 no_days) (value_yes e 0x0505 none own) refl
    (length-take-le c.args.entry.len (drop c.args.entry.place c.args.b.now) (omega (arith, length-drop c.args.entry.place c.args.b.now, c.requires.inside))) c.requires.inside
    (c.take_vehicles.ensures.judged ∙ ap (λ (v : List ℕ). not (is_some c.args.self.now.vehicles) && are_vehicles c.args.self.now.app v) c.value-then-entry-3.ensures)
    c.take_vehicles.ensures.taken

pub returns-clause-taken : goal.returns-clause-taken
returns-clause-taken c = λ before s.
    let e = told_at c.args.b.now c.args.entry in
    let no_sizes : c.args.entry.fid ≢ 0x0501 = omega (arith, c.if-entry.false) in
    let no_days : c.args.entry.fid ≢ 0x0504 = omega (arith, c.if-entry-2.false) in
    let no_vehicles : c.args.entry.fid ≢ 0x0505 = omega (arith, c.if-entry-3.false) in
    (passed_over c.args.b.now c.args.self.now before e s (value_no e 0x0501 no_sizes) (value_no e 0x0504 no_days) (value_no e 0x0505 no_vehicles)).1
