mod CommandLines
mod CalledAlone
