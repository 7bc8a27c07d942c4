-- What the devices over std hold.
use Rattle.std.specs.Prelude.{ℕ, Bool}
use Rattle.line_engine.specs.declared.stream.Input.{Input}
use Rattle.line_engine.specs.declared.stream.Output.{Output}

-- the reader of an input
abbrev pub reader_of : {R : Type 0} → Input R → R
reader_of input = input.inner

-- how many bytes it may still give
abbrev pub left_in : {R : Type 0} → Input R → ℕ
left_in input = input.left

abbrev pub input_failed : {R : Type 0} → Input R → Bool
input_failed input = input.has_failed

-- the writer of an output
abbrev pub writer_of : {W : Type 0} → Output W → W
writer_of output = output.inner

abbrev pub output_failed : {W : Type 0} → Output W → Bool
output_failed output = output.has_failed
