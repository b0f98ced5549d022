mod Even
mod Turned
mod Behind
mod Wanted
mod SeenRows
mod ValuesRead
mod Tests
mod Chunks
