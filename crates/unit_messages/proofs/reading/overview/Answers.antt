use Rattle.std.proofs.Common.{◌≡◌, ℕ, List, ◌<◌, ◌^◌, ◌∙◌, ap}
use Rattle.byteorder.specs.Endian.{big_number, big_bytes}
use Rattle.card_layout.proofs.Numbers.{big_number-big_bytes}
use Rattle.unit_messages.proofs.Overviews.{overview_front}
use Rattle.unit_messages.proofs.reading.overview.Goals as goal

-- the number in the four bytes of a time
time_is : (n m : ℕ) (bytes : List ℕ) → n ≡ big_number 4 bytes → bytes ≡ big_bytes 4 m → m < 256 ^ 4 → n ≡ m
time_is n m bytes value is low = value ∙ ap (big_number 4) is ∙ big_number-big_bytes 4 m low

pub returns : goal.returns
returns c = λ m begins.
    let laid = overview_front m c.args.b.now begins in
    let times = begins.is_message.times in
    record {
      registration = c.read_registration-registration.ensures ∙ laid.registration;
      now = time_is c.read_time-now.result.0 m.now _ (ap (λ t. t.0) c.read_time-now.ensures.value) laid.now times.0;
      begin = time_is c.read_time-begin.result.0 m.begin _ (ap (λ t. t.0) c.read_time-begin.ensures.value) laid.begin times.1;
      end = time_is c.read_time-end.result.0 m.end _ (ap (λ t. t.0) c.read_time-end.ensures.value) laid.end times.2;
    }
