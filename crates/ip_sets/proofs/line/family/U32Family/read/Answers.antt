use Rattle.std.proofs.Common.{drop, refl}
use Rattle.std.proofs.lemmas.List.{take_rest}
use Rattle.std.specs.Net.Text.{dotted_text}
use Rattle.ip_sets.proofs.lemmas.spelling.Octets.{dotted}
use Rattle.ip_sets.proofs.line.family.U32Family.read.Goals as goal

-- Four octets with dots between them are an address.
pub returns : goal.returns
returns c = rw take_rest (record {
  text = dotted_text c.in_ok-a.a c.in_ok-b.b c.in_ok-c.c c.in_ok-d.d;
  parts = dotted c.args.bytes.now (drop c.in_ok-a.end c.args.bytes.now)
      (drop c.in_ok-after_at.field-0 c.args.bytes.now) (drop c.in_ok-b.end c.args.bytes.now)
      (drop c.in_ok-after_at-2.field-0 c.args.bytes.now) (drop c.in_ok-c.end c.args.bytes.now)
      (drop c.in_ok-after_at-3.field-0 c.args.bytes.now) (drop c.in_ok-d.end c.args.bytes.now)
      c.in_ok-a.a c.in_ok-b.b c.in_ok-c.c c.in_ok-d.d
      c.in_ok-a.ensures.front c.in_ok-after_at.ensures.front c.in_ok-b.ensures.front
      c.in_ok-after_at-2.ensures.front c.in_ok-c.ensures.front c.in_ok-after_at-3.ensures.front
      c.in_ok-d.ensures.front;
  written = (
    c.new.result,
    record {
      a = c.in_ok-a.a;
      b = c.in_ok-b.b;
      c = c.in_ok-c.c;
      d = c.in_ok-d.d;
      fit = (
        c.in_ok-a.ensures.fits,
        c.in_ok-b.ensures.fits,
        c.in_ok-c.ensures.fits,
        c.in_ok-d.ensures.fits,
      );
      value = c.new.ensures;
      spelled = refl;
    },
    c.to_bits.ensures,
  );
})
