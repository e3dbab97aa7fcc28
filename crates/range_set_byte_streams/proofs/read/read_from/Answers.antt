use Rattle.std.proofs.Common.{refl, ◌++◌}
use Rattle.range_set_bytes.specs.Format.{bytes_of}
use Rattle.range_set_byte_streams.proofs.lemmas.Runs.{consumed-known, only-start}
use Rattle.range_set_byte_streams.proofs.read.read_from.Goals as goal

pub returns-clause-read : goal.returns-clause-read
returns-clause-read g c = consumed-known c.read_set-read.result (g.R.Read.remaining c.args.input.now)
    (g.R.Read.remaining c.read_set-read.new.input) g.T.Integer.value_count c.read_set-read.ensures.read

-- The bytes of no other set are there.
pub returns-clause-only : goal.returns-clause-only
returns-clause-only g c = λ runs more writable is.
    let bytes = bytes_of g.T.Integer.value_count runs ++ more in
    only-start c.read_set-read.result (g.R.Read.remaining c.read_set-read.new.input)
    g.T.Integer.value_count runs more writable (c.read_set-read.ensures.read bytes is)
    (c.read_set-read.ensures.writable bytes is)

pub returns-clause-taken : goal.returns-clause-taken
returns-clause-taken g c = λ runs more fault writable is told.
    (c.read_set-read.ensures.fault (bytes_of g.T.Integer.value_count runs ++ more) fault is told).alone
    runs more writable refl
