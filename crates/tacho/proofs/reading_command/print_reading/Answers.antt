use Rattle.std.proofs.lemmas.Grind.{common_steps}
use Rattle.std.proofs.Common.{◌≡◌, List, ℕ, inl, refl, arith, rules}
use Rattle.tacho.specs.Read.{EndsPut}
use Rattle.tacho.proofs.Views.{of-told, not-long}
use Rattle.tacho.proofs.Puts.{put-printed, put-bad, put-front, put-not-long, put-not-read, put-other, put-short, put-nothing, on-ok}
use Rattle.tacho.proofs.reading_command.print_reading.Goals as goal

pub returns-clause-prints : goal.returns-clause-prints
returns-clause-prints g c = record {
  printed = λ bytes told.
      put-printed c.args.reading bytes (g.K.Sink.held c.args.sink.now) (g.K.Sink.held c.put_reading.new.sink) (c.put_reading.new.sink ≡ c.args.sink.now) c.put_reading.result
      (of-told (λ (bs : List ℕ). EndsPut c.args.reading bs c.put_reading.result (g.K.Sink.held c.args.sink.now) (g.K.Sink.held c.put_reading.new.sink) (c.put_reading.new.sink ≡ c.args.sink.now))
      (g.S.Source.left c.args.source.now) (g.S.Source.left c.take_all.new.source) c.in-Ok.bytes.items c.as_slice.result.now bytes c.in-Ok.ensures.bytes c.in-Ok.ensures.end c.as_slice.ensures.value told c.put_reading.ensures.ends);
  front = λ bytes told is.
      put-front c.args.reading bytes (g.K.Sink.held c.args.sink.now) (g.K.Sink.held c.put_reading.new.sink) (c.put_reading.new.sink ≡ c.args.sink.now) c.put_reading.result
      (of-told (λ (bs : List ℕ). EndsPut c.args.reading bs c.put_reading.result (g.K.Sink.held c.args.sink.now) (g.K.Sink.held c.put_reading.new.sink) (c.put_reading.new.sink ≡ c.args.sink.now))
      (g.S.Source.left c.args.source.now) (g.S.Source.left c.take_all.new.source) c.in-Ok.bytes.items c.as_slice.result.now bytes c.in-Ok.ensures.bytes c.in-Ok.ensures.end c.as_slice.ensures.value told c.put_reading.ensures.ends)
      is;
}

pub returns-clause-read : goal.returns-clause-read
returns-clause-read g c = on-ok c.put_reading.result c.in-Ok.ensures.end

pub returns-clause-judges : goal.returns-clause-judges
returns-clause-judges g c = record {
  bad_file = λ bytes place told is.
      put-bad c.args.reading bytes (g.K.Sink.held c.args.sink.now) (g.K.Sink.held c.put_reading.new.sink) (c.put_reading.new.sink ≡ c.args.sink.now) c.put_reading.result place
      (of-told (λ (bs : List ℕ). EndsPut c.args.reading bs c.put_reading.result (g.K.Sink.held c.args.sink.now) (g.K.Sink.held c.put_reading.new.sink) (c.put_reading.new.sink ≡ c.args.sink.now))
      (g.S.Source.left c.args.source.now) (g.S.Source.left c.take_all.new.source) c.in-Ok.bytes.items c.as_slice.result.now bytes c.in-Ok.ensures.bytes c.in-Ok.ensures.end c.as_slice.ensures.value told c.put_reading.ensures.ends)
      is;
  too_long = λ bytes n told is.
      absurd (put-not-long c.args.reading c.as_slice.result.now (g.K.Sink.held c.args.sink.now) (g.K.Sink.held c.put_reading.new.sink) (c.put_reading.new.sink ≡ c.args.sink.now) c.put_reading.result n c.put_reading.ensures.ends is);
  finds_too_long = λ bytes told many.
      absurd (not-long (g.S.Source.left c.args.source.now) (g.S.Source.left c.take_all.new.source) c.in-Ok.bytes.items c.as_slice.result.now bytes c.in-Ok.ensures.bytes c.in-Ok.ensures.end c.as_slice.ensures.value
      (omega (arith, c.as_slice.ensures.len, c.in-Ok.ensures.few)) told many);
}

pub returns-clause-faults : goal.returns-clause-faults
returns-clause-faults g c = record {
  read_fault = λ is.
      absurd (put-not-read c.args.reading c.as_slice.result.now (g.K.Sink.held c.args.sink.now) (g.K.Sink.held c.put_reading.new.sink) (c.put_reading.new.sink ≡ c.args.sink.now) c.put_reading.result c.put_reading.ensures.ends is);
  write_fault = c.put_reading.ensures.cause;
  counts = first_of (search rules, grind (arith, common_steps));
}

pub returns-clause-short : goal.returns-clause-short
returns-clause-short g c = λ bytes told is.
    put-short c.args.reading bytes (g.K.Sink.held c.args.sink.now) (g.K.Sink.held c.put_reading.new.sink) (c.put_reading.new.sink ≡ c.args.sink.now) c.put_reading.result
    (of-told (λ (bs : List ℕ). EndsPut c.args.reading bs c.put_reading.result (g.K.Sink.held c.args.sink.now) (g.K.Sink.held c.put_reading.new.sink) (c.put_reading.new.sink ≡ c.args.sink.now))
    (g.S.Source.left c.args.source.now) (g.S.Source.left c.take_all.new.source) c.in-Ok.bytes.items c.as_slice.result.now bytes c.in-Ok.ensures.bytes c.in-Ok.ensures.end c.as_slice.ensures.value told c.put_reading.ensures.ends)
    is

pub returns-in-Err-Memory-clause-short : goal.returns-in-Err-Memory-clause-short
returns-in-Err-Memory-clause-short g c = λ bytes told is. inl refl

pub returns-clause-nothing : goal.returns-clause-nothing
returns-clause-nothing g c =
    put-nothing c.args.reading c.as_slice.result.now (g.K.Sink.held c.args.sink.now) (g.K.Sink.held c.put_reading.new.sink) (c.put_reading.new.sink ≡ c.args.sink.now) c.put_reading.result c.put_reading.ensures.ends

pub returns-clause-other : goal.returns-clause-other
returns-clause-other g c =
    put-other c.args.reading c.as_slice.result.now (g.K.Sink.held c.args.sink.now) (g.K.Sink.held c.put_reading.new.sink) (c.put_reading.new.sink ≡ c.args.sink.now) c.put_reading.result c.put_reading.ensures.ends
