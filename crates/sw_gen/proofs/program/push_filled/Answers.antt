use Rattle.std.proofs.Common.{◌≡◌, ◌∙◌, decimal, rules}
use Rattle.sw_gen.specs.Program.{piece}
use Rattle.sw_gen.proofs.Pieces.{one_more_of}
use Rattle.sw_gen.proofs.program.push_filled.Goals as goal

pub loop-byte-preserved : goal.loop-byte-preserved
loop-byte-preserved c =
    let digits : c.as_bytes.result.now ≡ decimal c.args.number = search rules in
    rw (c.in_ok-push_byte.ensures, digits)
    (one_more_of (piece (decimal c.args.number)) c.loop-byte.text.items c.args.template.now
    c.loop-byte.byte-index _ (search rules) (search rules)
    ∙ c.loop-byte.invariant)
