-- What is known of a file or of standard input.
use Rattle.n2kdec.specs.declared.system.reader.Reader.{Reader}
use Rattle.n2kdec.specs.declared.system.reader.Reader.TheVariants.{File, Input}

-- what is known of the one or of the other
abbrev pub of_either : {F I T : Type 0} → (F → T) → (I → T) → Reader F I → T
of_either of_file of_input (File file) = of_file file
of_either of_file of_input (Input input) = of_input input
