-- The round trip of a version message's words, both ways, and the reserved bits.
-- Assumes nothing.
use mathlib.Core.Path.{◌≡◌}
use Prim.Native.Nat.{ℕ, ◌+◌, ◌*◌, ◌/◌, ◌%◌, ◌^◌, ◌<◌}
use native.Mathlib.Omega.{arith}
use lib.Pow.{split, mod-pow-add}
use Rattle.vio_message.specs.declared.Message.{Message}
use Rattle.vio_message.specs.declared.Words.{Words}
use Rattle.vio_message.specs.Words.{InRange, packed, unpacked, without_reserved, RoundTrip}

pub unpack-pack : (m : Message) → InRange m → unpacked (packed m) ≡ m
unfolding packed unpacked
unpack-pack m p =
    let n = unpacked (packed m) in
    let sessions : n.session ≡ m.session = omega arith in
    let envelopes : n.envelope ≡ m.envelope = omega arith in
    let subtypes : n.subtype ≡ m.subtype = omega arith in
    let kinds : n.kind ≡ m.kind = omega arith in
    let classes : n.class ≡ m.class = omega arith in
    let minors : n.minor ≡ m.minor = omega arith in
    let majors : n.major ≡ m.major = omega arith in
    λ i. record {
      session = sessions i;
      envelope = envelopes i;
      subtype = subtypes i;
      kind = kinds i;
      class = classes i;
      minor = minors i;
      major = majors i;
    }

-- a number's field of j bits at k, with the k bits below it
field : (n j k : ℕ) → n / 2 ^ k % 2 ^ j * 2 ^ k + n % 2 ^ k ≡ n % 2 ^ (j + k)
field n j k = omega (arith, mod-pow-add n j k)

pub pack-unpack : (w : Words) → packed (unpacked w) ≡ without_reserved w
unfolding packed unpacked without_reserved
pack-unpack w =
    let v = packed (unpacked w) in
    let u = without_reserved w in
    let firsts : v.first ≡ u.first = omega (arith, field w.first 16 16, field w.first 8 8, split w.first 32) in
    let seconds : v.second ≡ u.second = omega (arith, field w.second 8 32, field w.second 16 16) in
    λ i. record { first = firsts i; second = seconds i }

pub unpacked-in-range : (w : Words) → w.first < 2 ^ 64 → InRange (unpacked w)
unfolding unpacked
unpacked-in-range w h = omega arith

sent-zero : (m : Message) → InRange m → without_reserved (packed m) ≡ packed m
unfolding packed without_reserved
sent-zero m p =
    let seconds : (without_reserved (packed m)).second ≡ (packed m).second = omega arith in
    λ i. record { first = (packed m).first; second = seconds i }

not-read : (w : Words) → unpacked (without_reserved w) ≡ unpacked w
unfolding unpacked without_reserved
not-read w =
    let m = unpacked w in
    let n = unpacked (without_reserved w) in
    let classes : n.class ≡ m.class = omega arith in
    let minors : n.minor ≡ m.minor = omega arith in
    let majors : n.major ≡ m.major = omega arith in
    λ i. record {
      session = m.session;
      envelope = m.envelope;
      subtype = m.subtype;
      kind = m.kind;
      class = classes i;
      minor = minors i;
      major = majors i;
    }

pub round_trip : RoundTrip
round_trip = search (unpack-pack, pack-unpack, unpacked-in-range, sent-zero, not-read)
