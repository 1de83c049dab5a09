-- The two words of a version message (02, ticket 10, which reads the damaged figures of 004, 1.1.1 and 1.1.2.1).
-- Assumes nothing.
use Rattle.std.specs.Prelude.{◌+◌, ◌*◌, ◌/◌, ◌%◌, ◌^◌, ◌<◌, ◌≡◌}
use Rattle.vio_message.specs.declared.Message.{Message}
use Rattle.vio_message.specs.declared.Words.{Words}

-- each field is a number of its width
pub record InRange (m : Message) : Type 0 where
  pub sessions : m.session < 2 ^ 32
  pub envelopes : m.envelope < 2 ^ 16
  pub subtypes : m.subtype < 2 ^ 8
  pub kinds : m.kind < 2 ^ 8
  pub classes : m.class < 2 ^ 8
  pub minors : m.minor < 2 ^ 16
  pub majors : m.major < 2 ^ 16

-- "from the top, session id 32 bits, envelope 16, subtype 8, type 8; then reserved 24 (sent 0, not read), class 8, minor 16, major 16"
unfoldable pub packed : Message → Words
packed m = record {
  first = m.session * 2 ^ 32 + m.envelope * 2 ^ 16 + m.subtype * 2 ^ 8 + m.kind;
  second = m.class * 2 ^ 32 + m.minor * 2 ^ 16 + m.major;
}

-- the fields of two words
unfoldable pub unpacked : Words → Message
unpacked w = record {
  session = w.first / 2 ^ 32;
  envelope = w.first / 2 ^ 16 % 2 ^ 16;
  subtype = w.first / 2 ^ 8 % 2 ^ 8;
  kind = w.first % 2 ^ 8;
  class = w.second / 2 ^ 32 % 2 ^ 8;
  minor = w.second / 2 ^ 16 % 2 ^ 16;
  major = w.second % 2 ^ 16;
}

-- two words with the reserved bits, the 24 highest of the second, at 0
unfoldable pub without_reserved : Words → Words
without_reserved w = record { first = w.first; second = w.second % 2 ^ 40 }

-- the round trip, both ways; "reserved 24 (sent 0, not read)"
pub record RoundTrip : Type 0 where
  pub unpack_after_pack : (m : Message) → InRange m → unpacked (packed m) ≡ m
  pub pack_after_unpack : (w : Words) → packed (unpacked w) ≡ without_reserved w
  pub unpacked_in_range : (w : Words) → w.first < 2 ^ 64 → InRange (unpacked w)
  pub sent_zero : (m : Message) → InRange m → without_reserved (packed m) ≡ packed m
  pub not_read : (w : Words) → unpacked (without_reserved w) ≡ unpacked w
