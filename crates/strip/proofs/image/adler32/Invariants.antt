use Rattle.std.proofs.Common.{◌≡◌, drop}
use Rattle.strip.specs.Image.{adler, adler_from}
use Rattle.strip.proofs.image.adler32.Given as goal

abbrev pub invariant-loop-x : goal.invariant-loop-x
invariant-loop-x l = adler_from l.adler.a l.adler.b (drop l.x-index l.bytes) ≡ adler l.bytes
