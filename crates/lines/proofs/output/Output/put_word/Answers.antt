-- `lines::output::Output::put_word` meets its contract: a number of 64 bits has 16 digits.
-- Assumes nothing.
use Rattle.std.proofs.Common.{◌≡◌, ℕ, ap, ◌∙◌, arith, length-take}
use Rattle.io.specs.Digits.{last_digits}
use Rattle.lines.specs.Forms.{word_places}
use Rattle.lines.proofs.Puts.{fewest-word, puts-same, puts-within}
use native.Mathlib.Omega.{arith}
use Rattle.lines.proofs.output.Output.put_word.Goals as goal

pub put-requires : goal.put-requires
put-requires c =
    let d : _ = c.before.before.hex-count in
    let n : _ = c.before.before.before.before.args.n in
    let e : d.result ≡ word_places = fewest-word n d.result (omega arith) d.ensures.len in
    simp length-take (omega arith)

pub returns : goal.returns
returns c =
    let d : _ = c.before.before.before.hex-count in
    let n : _ = c.before.before.before.before.before.args.n in
    let e : d.result ≡ word_places = fewest-word n d.result (omega arith) d.ensures.len in
    puts-within _ (simp length-take (omega arith))
    (puts-same (d.ensures.digits ∙ ap (λ (k : ℕ). last_digits 16 k n) e) c.put.ensures)
