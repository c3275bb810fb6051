use Rattle.n2k_encode.proofs.Again.{bytes_accepted, digits_accepted, text_accepted}
use Rattle.n2k_encode.proofs.Named.{first_name_accepted, name_accepted, unnamed_accepted}
use Rattle.n2k_encode.proofs.Numbers.{number_accepted, shifted_accepted}
use Rattle.n2k_encode.proofs.Strings.{characters_accepted}
use Rattle.n2k_encode.proofs.Wide.{wide_accepted}
use Rattle.n2k_encode.proofs.laws.shown_values_are_accepted.Goals as goal

pub returns-clause-numbers : goal.returns-clause-numbers
returns-clause-numbers c = number_accepted

pub returns-clause-shifted : goal.returns-clause-shifted
returns-clause-shifted c = shifted_accepted

pub returns-clause-names : goal.returns-clause-names
returns-clause-names c = name_accepted

pub returns-clause-first_names : goal.returns-clause-first_names
returns-clause-first_names c = first_name_accepted

pub returns-clause-unnamed : goal.returns-clause-unnamed
returns-clause-unnamed c = unnamed_accepted

pub returns-clause-bytes : goal.returns-clause-bytes
returns-clause-bytes c = bytes_accepted

pub returns-clause-digits : goal.returns-clause-digits
returns-clause-digits c = digits_accepted

pub returns-clause-texts : goal.returns-clause-texts
returns-clause-texts c = text_accepted

pub returns-clause-characters : goal.returns-clause-characters
returns-clause-characters c = characters_accepted

pub returns-clause-wide : goal.returns-clause-wide
returns-clause-wide c = wide_accepted
