-- Why a run is refused, in words. Own texts: of the first refusal alone, and a path is whole and normal.
use Rattle.std.specs.Prelude.{ℕ, List, ◌++◌, codes}
use Rattle.lit_dirs.specs.declared.fault.DiscoverFault.{DiscoverFault}
use Rattle.lit_dirs.specs.declared.fault.DiscoverFault.TheVariants.{Missing, PythonConfig, NoSuite, BadSuite, SuiteTooLarge, TooMany, TooManyItems, NoTests, TreeFault, NoMemory}
use Rattle.lit_suite.specs.declared.suite_file.SuiteFault.{SuiteFault}
use Rattle.lit_suite.specs.declared.suite_file.SuiteFault.TheVariants.{NotToml, MissingKey, BadVersion, UnknownKey, BadValue}
use Rattle.lit_words.specs.declared.fault.LitWordsFault.{LitWordsFault}
use Rattle.lit_words.specs.declared.fault.LitWordsFault.TheVariants.{Faulty, NoPath, Misfit, BadRegex}
use Rattle.lit_tool.specs.declared.stop.LitStop.{LitStop}
use Rattle.lit_tool.specs.declared.stop.LitStop.TheVariants.{Words, Discovery, NoneSelected, NotText}
use Rattle.opt_words.specs.Fault.{text_before, text_behind}

abbrev pub words_text : LitWordsFault → List ℕ
words_text (Faulty fault word) = text_before fault ++ word ++ text_behind fault
words_text NoPath = codes "a path is needed"
words_text Misfit = codes "these options don't fit together"
words_text (BadRegex value) = codes "bad regex '" ++ value ++ codes "'"

-- the kind of a suite's fault, with its key
abbrev pub kind_text : SuiteFault → List ℕ
kind_text NotToml = codes "NotToml"
kind_text (MissingKey key) = codes "MissingKey '" ++ key ++ codes "'"
kind_text BadVersion = codes "BadVersion"
kind_text (UnknownKey key) = codes "UnknownKey '" ++ key ++ codes "'"
kind_text (BadValue key) = codes "BadValue '" ++ key ++ codes "'"

abbrev pub discovery_text : DiscoverFault → List ℕ
discovery_text (Missing path) = codes "path not found: '" ++ path ++ codes "'"
discovery_text (PythonConfig path) = codes "Python configuration isn't supported: '" ++ path ++ codes "'"
discovery_text (NoSuite path) = codes "no suite for '" ++ path ++ codes "'"
discovery_text (BadSuite path fault) = (codes "bad suite '" ++ path ++ codes "': ") ++ kind_text fault
discovery_text (SuiteTooLarge path) = codes "suite file too large: '" ++ path ++ codes "'"
discovery_text TooMany = codes "too many tests"
discovery_text TooManyItems = codes "too many files"
discovery_text NoTests = codes "no tests found"
discovery_text TreeFault = codes "cannot read the tree"
discovery_text NoMemory = codes "out of memory"

-- what is told of a stop
abbrev pub text_of : LitStop → List ℕ
text_of (Words fault) = words_text fault
text_of (Discovery fault) = discovery_text fault
text_of NoneSelected = codes "no tests selected"
text_of NotText = codes "name isn't text"
