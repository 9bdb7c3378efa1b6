-- The types of files that a search may be limited to. docs/PROMISES.md, "Rules".
use denote.Ref.{Bor}
use Rattle.std.specs.Prelude.{ℕ, ◌≡◌, ◌++◌, Bool, true, false, if◌then◌else◌, List, [], ◌∷◌, Option, Some, None, codes, bytes_eq}
use Rattle.cs_listing.specs.declared.rules.Decision.TheVariants.{Ignore, TakeBack}
use Rattle.cs_listing.specs.RuleFiles.{rules_saying}
use Rattle.cs_listing.specs.Choices.{Settings}

-- a type: its name, and the globs of its files, which have spaces between them
abbrev pub FileType : Type 0
FileType = List ℕ × List ℕ

-- the types in the order of their names
unfoldable pub file_types : List FileType
file_types =
    (codes "agda", codes "*.agda *.lagda")
    ∷ (codes "asciidoc", codes "*.adoc *.asc *.asciidoc")
    ∷ (codes "asm", codes "*.S *.asm *.s")
    ∷ (codes "awk", codes "*.awk")
    ∷ (codes "bazel", codes "*.BUILD *.bazel *.bazelrc *.bzl BUILD WORKSPACE")
    ∷ (codes "c", codes "*.[chH] *.[chH].in *.cats")
    ∷ (codes "clojure", codes "*.clj *.cljc *.cljs *.cljx")
    ∷ (codes "cmake", codes "*.cmake CMakeLists.txt")
    ∷ (codes "config", codes "*.cfg *.conf *.config *.ini")
    ∷ (codes "coq", codes "*.v")
    ∷ (codes "cpp", codes "*.[ChH] *.[ChH].in *.[ch]pp *.[ch]pp.in *.[ch]xx *.[ch]xx.in *.cc *.cc.in *.hh *.hh.in *.inl")
    ∷ (codes "cs", codes "*.cs")
    ∷ (codes "css", codes "*.css *.scss")
    ∷ (codes "csv", codes "*.csv")
    ∷ (codes "cython", codes "*.pxd *.pxi *.pyx")
    ∷ (codes "d", codes "*.d")
    ∷ (codes "dart", codes "*.dart")
    ∷ (codes "docker", codes "*Dockerfile*")
    ∷ (codes "elixir", codes "*.eex *.ex *.exs")
    ∷ (codes "elm", codes "*.elm")
    ∷ (codes "erlang", codes "*.erl *.hrl")
    ∷ (codes "fish", codes "*.fish")
    ∷ (codes "fortran", codes "*.F *.F77 *.F90 *.F95 *.f *.f77 *.f90 *.f95 *.pfo")
    ∷ (codes "go", codes "*.go")
    ∷ (codes "gradle", codes "*.gradle")
    ∷ (codes "groovy", codes "*.gradle *.groovy")
    ∷ (codes "h", codes "*.h *.hpp")
    ∷ (codes "haskell", codes "*.c2hs *.cpphs *.hs *.hsc *.lhs")
    ∷ (codes "html", codes "*.ejs *.htm *.html")
    ∷ (codes "idris", codes "*.idr *.lidr")
    ∷ (codes "java", codes "*.java *.jsp *.jspx *.properties")
    ∷ (codes "js", codes "*.js *.jsx *.vue")
    ∷ (codes "json", codes "*.json composer.lock")
    ∷ (codes "jsonl", codes "*.jsonl")
    ∷ (codes "julia", codes "*.jl")
    ∷ (codes "jupyter", codes "*.ipynb *.jpynb")
    ∷ (codes "kotlin", codes "*.kt *.kts")
    ∷ (codes "less", codes "*.less")
    ∷ (
      codes "license",
      codes "*[.-]LICEN[CS]E* AGPL-*[0-9]* APACHE-*[0-9]* BSD-*[0-9]* CC-BY-* COPYING COPYING[.-]* "
          ++ codes "COPYRIGHT COPYRIGHT[.-]* EULA EULA[.-]* GFDL-*[0-9]* GNU-*[0-9]* GPL-*[0-9]* LGPL-*[0-9]* LICEN[CS]E "
          ++ codes "LICEN[CS]E[.-]* MIT-*[0-9]* MPL-*[0-9]* NOTICE NOTICE[.-]* OFL-*[0-9]* PATENTS PATENTS[.-]* UNLICEN[CS]E "
          ++ codes "UNLICEN[CS]E[.-]* agpl[.-]* gpl[.-]* lgpl[.-]* licen[cs]e licen[cs]e.*",
    )
    ∷ (codes "lisp", codes "*.el *.jl *.lisp *.lsp *.sc *.scm")
    ∷ (codes "lock", codes "*.lock package-lock.json")
    ∷ (codes "log", codes "*.log")
    ∷ (codes "lua", codes "*.lua")
    ∷ (codes "m4", codes "*.ac *.m4")
    ∷ (
      codes "make",
      codes "*.mak *.mk [Gg][Nn][Uu]makefile [Gg][Nn][Uu]makefile.am [Gg][Nn][Uu]makefile.in [Mm]akefile "
          ++ codes "[Mm]akefile.am [Mm]akefile.in",
    )
    ∷ (codes "man", codes "*.[0-9][cEFMmpSx] *.[0-9lnpx]")
    ∷ (codes "markdown", codes "*.markdown *.md *.mdown *.mkdn")
    ∷ (codes "md", codes "*.markdown *.md *.mdown *.mkdn")
    ∷ (codes "meson", codes "meson.build meson_options.txt")
    ∷ (codes "nix", codes "*.nix")
    ∷ (codes "objc", codes "*.h *.m")
    ∷ (codes "ocaml", codes "*.ml *.mli *.mll *.mly")
    ∷ (codes "org", codes "*.org *.org_archive")
    ∷ (codes "perl", codes "*.PL *.perl *.pl *.plh *.plx *.pm *.t")
    ∷ (codes "php", codes "*.php *.php3 *.php4 *.php5 *.phtml")
    ∷ (codes "protobuf", codes "*.proto")
    ∷ (codes "ps", codes "*.cdxml *.ps1 *.ps1xml *.psd1 *.psm1")
    ∷ (codes "puppet", codes "*.erb *.pp *.rb")
    ∷ (codes "py", codes "*.py")
    ∷ (codes "r", codes "*.R *.Rmd *.Rnw *.r")
    ∷ (codes "racket", codes "*.rkt")
    ∷ (codes "rst", codes "*.rst")
    ∷ (codes "ruby", codes "*.gemspec *.rb *.rbw .irbrc Gemfile Rakefile config.ru")
    ∷ (codes "rust", codes "*.rs")
    ∷ (codes "sass", codes "*.sass *.scss")
    ∷ (codes "scala", codes "*.sbt *.scala")
    ∷ (
      codes "sh",
      codes "*.bash *.bashrc *.csh *.cshrc *.ksh *.kshrc *.sh *.tcsh *.zsh .bash_login .bash_logout "
          ++ codes ".bash_profile .bashrc .cshrc .kshrc .login .logout .profile .tcshrc .zlogin .zlogout .zprofile .zshenv "
          ++ codes ".zshrc bash_login bash_logout bash_profile bashrc profile zlogin zlogout zprofile zshenv zshrc",
    )
    ∷ (codes "sql", codes "*.psql *.sql")
    ∷ (codes "svg", codes "*.svg")
    ∷ (codes "swift", codes "*.swift")
    ∷ (
      codes "systemd",
      codes "*.automount *.conf *.device *.link *.mount *.path *.scope *.service *.slice *.socket *.swap "
          ++ codes "*.target *.timer",
    )
    ∷ (codes "tcl", codes "*.tcl")
    ∷ (codes "tex", codes "*.bib *.cls *.dtx *.ins *.ltx *.sty *.tex")
    ∷ (codes "tf", codes "*.tf")
    ∷ (codes "thrift", codes "*.thrift")
    ∷ (codes "toml", codes "*.toml Cargo.lock")
    ∷ (codes "ts", codes "*.ts *.tsx")
    ∷ (codes "txt", codes "*.txt")
    ∷ (codes "vala", codes "*.vala")
    ∷ (codes "verilog", codes "*.sv *.svh *.v *.vh")
    ∷ (codes "vhdl", codes "*.vhd *.vhdl")
    ∷ (codes "vim", codes "*.vim")
    ∷ (codes "xml", codes "*.dtd *.rng *.sch *.xhtml *.xjb *.xml *.xml.dist *.xsd *.xsl *.xslt")
    ∷ (codes "yaml", codes "*.yaml *.yml")
    ∷ (codes "zig", codes "*.zig")
    ∷ (codes "zsh", codes "*.zsh .zlogin .zlogout .zprofile .zshenv .zshrc zlogin zlogout zprofile zshenv zshrc")
    ∷ []

-- the globs of the first type with this name, if there is one
abbrev pub globs_among : List FileType → List ℕ → Option (List ℕ)
globs_among [] name = None
globs_among (type ∷ types) name = if bytes_eq type.0 name then Some type.1 else globs_among types name

-- The globs of the type of a name, if there is one, are added in the order of their text; `is_left_out` says that they leave
-- files out.
abbrev pub AddsGlobsOf : Option (List ℕ) → Bool → Bool → Settings → Settings → Type 0
AddsGlobsOf None is_left_out is_type old new = (is_type ≡ false) × (new ≡ old)
AddsGlobsOf (Some globs) is_left_out is_type old new =
    (is_type ≡ true) × (new ≡ record old { types = old.types ++ rules_saying (if is_left_out then TakeBack else Ignore) globs })

-- the values of the code
abbrev pub type_of : Bor (List ℕ) × Bor (List ℕ) → FileType
type_of row = (row.0.now, row.1.now)
